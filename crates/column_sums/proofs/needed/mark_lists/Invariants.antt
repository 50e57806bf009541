use Rattle.std.proofs.Common.{◌<◌, ℕ, All, slice_index_or}
use Rattle.column_sums.specs.declared.moves.DieList.{DieList}
use Rattle.column_sums.specs.Needed.{AreNeededStill, LeadsToNeeded}
use Rattle.column_sums.proofs.needed.mark_lists.Given as goal

abbrev pub invariant-loop-list : goal.invariant-loop-list
invariant-loop-list l = record {
  ends : (i : ℕ) (none : DieList) → i < l.list-index → All (LeadsToNeeded l.needed) (slice_index_or l.lists i none).reaches.items;
  kept : AreNeededStill l.fn.needed l.needed;
}
