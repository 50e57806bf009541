use Rattle.turn_rule.proofs.Within.{turn-within}
use Rattle.turn_rule.proofs.laws.turns_stay_within_the_bound.Goals as goal

pub returns : goal.returns
returns c = λ game right u. turn-within game right.stakes u
