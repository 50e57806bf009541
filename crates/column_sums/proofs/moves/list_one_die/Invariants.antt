use Rattle.std.proofs.Common.{◌<◌, ℕ, All, slice_index_or}
use Rattle.column_sums.specs.declared.moves.DieList.{DieList}
use Rattle.column_sums.specs.Listings.{AreListedStill, AreCells, LeadsInto, LeadsToCells}
use Rattle.column_sums.proofs.moves.list_one_die.Given as goal

abbrev pub invariant-loop-list : goal.invariant-loop-list
invariant-loop-list l = record {
  kept : AreListedStill l.fn.listing l.listing;
  listed : (i : ℕ) (none : DieList) → i < l.list-index → All (LeadsInto l.listing) (slice_index_or l.lists i none).reaches.items;
  cells : (many layers : ℕ) → AreCells many layers l.fn.listing
      → ((i : ℕ) (none : DieList) → i < 6 → All (LeadsToCells many layers) (slice_index_or l.lists i none).reaches.items)
      → AreCells many layers l.listing;
}
