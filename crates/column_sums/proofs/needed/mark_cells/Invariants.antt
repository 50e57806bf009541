use Rattle.std.proofs.Common.{◌<◌, ℕ, slice_index}
use Rattle.column_sums.specs.Needed.{AreNeededStill, IsNeeded}
use Rattle.column_sums.proofs.needed.mark_cells.Given as goal

abbrev pub invariant-loop-cell : goal.invariant-loop-cell
invariant-loop-cell l = record {
  cells : (i : ℕ) → i < l.cell-index → IsNeeded l.needed (slice_index l.cells i);
  kept : AreNeededStill l.fn.needed l.needed;
}
