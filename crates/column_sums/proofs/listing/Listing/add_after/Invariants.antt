use Rattle.std.proofs.Common.{◌<◌, ℕ, All, slice_index_or}
use Rattle.column_sums.specs.declared.cells.Reach.{Reach}
use Rattle.column_sums.specs.Listings.{AreListedStill, AreCells, LeadsInto, LeadsToCells}
use Rattle.column_sums.proofs.listing.Listing.add_after.Given as goal

abbrev pub invariant-loop-reach : goal.invariant-loop-reach
invariant-loop-reach l = record {
  kept : AreListedStill l.fn.self l.self;
  listed : (i : ℕ) (none : Reach) → i < l.reach-index → LeadsInto l.self (slice_index_or l.reaches i none);
  cells : (many layers : ℕ) → AreCells many layers l.fn.self → All (LeadsToCells many layers) l.reaches → AreCells many layers l.self;
}
