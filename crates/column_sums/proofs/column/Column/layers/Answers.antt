use Rattle.std.proofs.Common.{ap, subst}
use Rattle.column_sums.specs.ColumnOf.{ColumnOf}
use Rattle.column_sums.specs.AfterHits.{AreClosedByHits}
use Rattle.column_sums.proofs.column.Column.layers.Goals as goal

pub returns-clause-closed : goal.returns-clause-closed
returns-clause-closed c = subst AreClosedByHits (ap (λ (v : ColumnOf). v.others) c.self.view_is) c.count.ensures.closed
