use Rattle.turn_rule.proofs.Monotone.{same-stakes, roll-tighter, turn-tighter-at}
use Rattle.turn_rule.proofs.following_laws.tighter_words_that_follow_give_tighter_values.Goals as goal

pub returns : goal.returns
returns c = record {
  rolling = λ stakes p k factor end u v. roll-tighter stakes stakes (same-stakes stakes) end u v p k factor;
  turn = λ stakes p k end u v. turn-tighter-at stakes stakes (same-stakes stakes) end u v p k;
}
