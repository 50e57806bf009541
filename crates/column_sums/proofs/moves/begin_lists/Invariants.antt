use Rattle.std.proofs.Common.{◌≡◌, ◌<◌, ◌+◌, ℕ, length, slice_index_or}
use Rattle.column_sums.specs.declared.moves.DieList.{DieList}
use Rattle.column_sums.specs.MoveLists.{AreReaches, AreRooms}
use Rattle.column_sums.proofs.moves.begin_lists.Given as goal

abbrev pub invariant-loop-d : goal.invariant-loop-d
invariant-loop-d l = record {
  rooms : AreRooms l.lists;
  reaches : (i : ℕ) (none : DieList) → i < l.d → AreReaches l.steps l.layers (i + 1) l.listing (slice_index_or l.lists i none).reaches.items;
  many : (i : ℕ) (none : DieList) → i < l.d → length (slice_index_or l.lists i none).reaches.items ≡ length l.listing;
}
