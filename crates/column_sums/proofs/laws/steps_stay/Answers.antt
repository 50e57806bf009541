use Rattle.column_sums.proofs.StepLemmas.{step-stays, places-few}
use Rattle.column_sums.proofs.laws.steps_stay.Goals as goal

pub returns-clause-step : goal.returns-clause-step
returns-clause-step c = λ mover die from step long a b e. step-stays mover die from step long a b e

pub returns-clause-few : goal.returns-clause-few
returns-clause-few c = λ mover die long. places-few mover die long
