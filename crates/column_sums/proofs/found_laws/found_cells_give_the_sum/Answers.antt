use Rattle.column_sums.proofs.ColumnFound.{column-found}
use Rattle.column_sums.proofs.found_laws.found_cells_give_the_sum.Goals as goal

pub returns : goal.returns
returns c = λ end s stakes noted k layouts others needed row valid fits all few eight distinct closed is found p state layer sum best.
    column-found end s stakes noted k layouts others needed row all few eight distinct is found valid fits closed p state layer sum best
