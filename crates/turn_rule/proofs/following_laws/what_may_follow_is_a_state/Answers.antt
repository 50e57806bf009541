use Rattle.turn_rule.proofs.Within.{follow-state, follow-turn-state}
use Rattle.turn_rule.proofs.following_laws.what_may_follow_is_a_state.Goals as goal

pub returns : goal.returns
returns c = record {
  rolling = λ game right. follow-state game right.stakes;
  turn = λ game right. follow-turn-state game right.stakes;
}
