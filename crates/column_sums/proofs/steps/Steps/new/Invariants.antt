use Rattle.std.proofs.Common.{◌*◌}
use Rattle.column_sums.specs.Grids.{AreFansTo}
use Rattle.column_sums.proofs.steps.Steps.new.Given as goal

abbrev pub invariant-loop-rank : goal.invariant-loop-rank
invariant-loop-rank l = AreFansTo l.layouts.items l.fans.items (l.rank * 6)
