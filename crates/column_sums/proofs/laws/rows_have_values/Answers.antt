use Rattle.column_sums.proofs.RowValues.{row-values}
use Rattle.column_sums.proofs.laws.rows_have_values.Goals as goal

pub returns : goal.returns
returns c = λ checkers layouts others needed row all few eight distinct is. row-values checkers layouts others needed row all few eight distinct is
