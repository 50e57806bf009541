use Rattle.column_sums.proofs.Found.{best-missing}
use Rattle.column_sums.proofs.laws.missing_values_are_missing.Goals as goal

pub returns : goal.returns
returns c = λ f g dice p none. best-missing f g dice p none
