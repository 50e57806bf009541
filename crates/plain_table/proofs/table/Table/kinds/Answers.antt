use Rattle.std.proofs.Common.{subst}
use Rattle.plain_table.specs.Tables.{IsFull}
use Rattle.plain_table.proofs.table.Table.kinds.Goals as goal

pub returns-clause-full : goal.returns-clause-full
returns-clause-full c = subst IsFull c.self.view_is c.self.invariant
