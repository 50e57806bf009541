use Rattle.move_rules.specs.Ends.{places}
use Rattle.column_sums.proofs.StepLemmas.{move-step, places-steps}
use Rattle.column_sums.proofs.laws.moves_are_steps.Goals as goal

pub returns-clause-one : goal.returns-clause-one
returns-clause-one c = λ p die from. move-step p die from

pub returns-clause-all : goal.returns-clause-all
returns-clause-all c = λ later p die. places-steps later p die places
