use Rattle.std.proofs.Common.{◌+◌, ◌*◌}
use Rattle.column_sums.specs.Grids.{AreFansTo}
use Rattle.column_sums.proofs.steps.add_fans.Given as goal

abbrev pub invariant-loop-sides : goal.invariant-loop-sides
invariant-loop-sides l = AreFansTo l.layouts l.fans.items (l.rank * 6 + l.sides)
