use Rattle.std.proofs.Common.{◌<◌, ℕ, slice_index_or}
use Rattle.column_sums.specs.declared.cells.Reach.{Reach}
use Rattle.column_sums.specs.Tables.{HasNoThird}
use Rattle.column_sums.proofs.moves.has_third.Given as goal

abbrev pub invariant-loop-reach : goal.invariant-loop-reach
invariant-loop-reach l = (i : ℕ) (none : Reach) → i < l.reach-index → HasNoThird (slice_index_or l.reaches i none)
