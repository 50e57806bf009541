use Rattle.std.proofs.Common.{◌<◌, ℕ, slice_index_or}
use Rattle.column_sums.specs.declared.cells.Reach.{Reach}
use Rattle.column_sums.specs.Needed.{AreNeededStill, LeadsToNeeded}
use Rattle.column_sums.proofs.needed.mark_ends.Given as goal

abbrev pub invariant-loop-reach : goal.invariant-loop-reach
invariant-loop-reach l = record {
  ends : (i : ℕ) (none : Reach) → i < l.reach-index → LeadsToNeeded l.needed (slice_index_or l.reaches i none);
  kept : AreNeededStill l.fn.needed l.needed;
}
