use Rattle.turn_rule.proofs.Enclosing.{rounds-consistent}
use Rattle.turn_rule.proofs.exact_laws.rounds_are_consistent.Goals as goal

pub returns : goal.returns
returns c = λ game right r. rounds-consistent game right.stakes r
