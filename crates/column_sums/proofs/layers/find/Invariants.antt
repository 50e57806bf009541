use Rattle.std.proofs.Common.{◌≢◌, ◌<◌, ℕ}
use Rattle.column_sums.specs.Leaps.{layout_at}
use Rattle.column_sums.proofs.layers.find.Given as goal

abbrev pub invariant-loop-i : goal.invariant-loop-i
invariant-loop-i l = (k : ℕ) → k < l.i → layout_at l.others k ≢ l.wanted
