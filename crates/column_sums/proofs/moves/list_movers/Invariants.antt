use Rattle.std.proofs.Common.{◌≤◌, ◌<◌, ℕ, All, length, slice_index}
use Rattle.column_sums.specs.Listings.{IsListed, AreCells}
use Rattle.column_sums.proofs.moves.list_movers.Given as goal

abbrev pub invariant-loop-mover : goal.invariant-loop-mover
invariant-loop-mover l = record {
  listed : (i : ℕ) → i < l.mover-index → IsListed l.listing (slice_index l.movers i);
  only : (i : ℕ) → i < length l.listing → IsListed l.movers (slice_index l.listing i);
  cells : (many : ℕ) → many ≤ 4095 → All (λ (rank : ℕ). rank < many) l.movers → AreCells many 1 l.listing;
}
