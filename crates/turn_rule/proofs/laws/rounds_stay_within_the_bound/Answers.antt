use Rattle.turn_rule.proofs.Within.{rounds-within}
use Rattle.turn_rule.proofs.laws.rounds_stay_within_the_bound.Goals as goal

pub returns : goal.returns
returns c = λ game right r. rounds-within game right.stakes r
