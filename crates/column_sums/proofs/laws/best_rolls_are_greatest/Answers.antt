use Rattle.column_sums.proofs.Cascades.{roll-greatest}
use Rattle.column_sums.proofs.laws.best_rolls_are_greatest.Goals as goal

pub returns : goal.returns
returns c = λ value p roll right. roll-greatest value p roll right
