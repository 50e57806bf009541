use Rattle.column_sums.proofs.Found.{all-best}
use Rattle.column_sums.proofs.laws.best_sums_are_sums.Goals as goal

pub returns : goal.returns
returns c = λ value p. all-best value p
