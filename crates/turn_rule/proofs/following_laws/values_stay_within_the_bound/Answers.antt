use Rattle.turn_rule.proofs.Within.{roll-within, turn-within-at}
use Rattle.turn_rule.proofs.following_laws.values_stay_within_the_bound.Goals as goal

pub returns : goal.returns
returns c = record {
  rolling = λ game right p k factor u. roll-within game right.stakes u p k factor;
  turn = λ game right p k u. turn-within-at game right.stakes u p k;
}
