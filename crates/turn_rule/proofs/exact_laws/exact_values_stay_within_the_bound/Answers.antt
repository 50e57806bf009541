use Rattle.turn_rule.proofs.Enclosing.{exact-within}
use Rattle.turn_rule.proofs.exact_laws.exact_values_stay_within_the_bound.Goals as goal

pub returns : goal.returns
returns c = λ game right scoring within turns. exact-within game right.stakes scoring within turns
