use Rattle.column_sums.proofs.StepLemmas.{move-struck}
use Rattle.column_sums.proofs.laws.moves_strike_one.Goals as goal

pub returns : goal.returns
returns c = λ p die from q low a b e. move-struck p die from q low a b e
