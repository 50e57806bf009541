use Rattle.std.proofs.Common.{◌≡◌, ◌≤◌, ◌<◌, ◌+◌, ℕ, slice_index_or}
use Rattle.column_sums.specs.declared.moves.DieList.{DieList}
use Rattle.column_sums.specs.MoveLists.{AreRooms, IsDieList}
use Rattle.column_sums.proofs.moves.finish_lists.Given as goal

abbrev pub invariant-loop-d : goal.invariant-loop-d
invariant-loop-d l = record {
  same : l.listing ≡ l.fn.listing;
  rooms : AreRooms l.lists;
  done : (i : ℕ) (none : DieList) → i < l.d → IsDieList l.steps l.layers l.fn.listing l.movers (i + 1) (slice_index_or l.lists i none);
  rest : (i : ℕ) (none : DieList) → l.d ≤ i → slice_index_or l.lists i none ≡ slice_index_or l.fn.lists i none;
}
