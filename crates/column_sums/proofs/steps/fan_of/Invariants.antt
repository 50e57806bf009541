use Rattle.std.proofs.Common.{◌-◌}
use Rattle.column_sums.proofs.Fans.{Fanned}
use Rattle.column_sums.proofs.steps.fan_of.Given as goal

abbrev pub invariant-loop-below : goal.invariant-loop-below
invariant-loop-below l = Fanned l.layouts l.layout l.die l.leaps.items (25 - l.below)
