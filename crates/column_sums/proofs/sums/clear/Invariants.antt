use Rattle.std.proofs.Common.{◌≡◌, ◌<◌, ℕ, pos}
use Rattle.directed_fixed.specs.declared.bounds.End.{End}
use Rattle.column_sums.specs.Sums.{sum_at}
use Rattle.column_sums.specs.Worths.{worths_at}
use Rattle.column_sums.proofs.sums.clear.Given as goal

abbrev pub invariant-loop-i : goal.invariant-loop-i
invariant-loop-i l = (end : End) (k : ℕ) → k < l.i → sum_at (worths_at end l.sums) k ≡ pos 0
