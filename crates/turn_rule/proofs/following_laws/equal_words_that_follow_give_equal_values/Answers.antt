use Rattle.turn_rule.proofs.Agreement.{roll-agree, turn-agree-at}
use Rattle.turn_rule.proofs.following_laws.equal_words_that_follow_give_equal_values.Goals as goal

pub returns : goal.returns
returns c = record {
  rolling = λ stakes p k factor end u v. roll-agree stakes u v end p k factor;
  turn = λ stakes p k end u v. turn-agree-at stakes u v end p k;
}
