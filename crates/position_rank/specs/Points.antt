-- The points where each side stands, as the bits of a number, both in the numbering of the side that doesn't move.
use Rattle.std.specs.Prelude.{◌≡◌, ℕ, ◌-◌, ◌<◌, ◌≤◌, ◌^◌, ◌↔◌, List, length, slice_index}
use Rattle.std.specs.Int.{bit_at}
use Rattle.position_rank.specs.Placement.{InPlay}
use Rattle.position_rank.specs.Ranks.{layouts}
use Rattle.position_rank.specs.LiveRanks.{layout_at}

-- the bit of each point of the other side is set where the mover stands there. Bit 0 always is, and bit 25 where the mover isn't in play
pub record AreMoverPoints (bits : ℕ) (counts : List ℕ) : Type 0 where
  pub within : bits < 2 ^ 26
  pub lowest : bit_at bits 0 ≡ 1
  pub highest : (bit_at bits 25 ≡ 0) ↔ InPlay counts
  pub points :
      (point : ℕ) → 1 ≤ point → point ≤ 24
      → (bit_at bits point ≡ 1) ↔ (0 < slice_index counts (25 - point))

-- the bit of each point is set where the other side stands there. Bit 25 always is, and bit 0 where that side isn't in play
pub record AreOtherPoints (bits : ℕ) (counts : List ℕ) : Type 0 where
  pub within : bits < 2 ^ 26
  pub lowest : (bit_at bits 0 ≡ 0) ↔ InPlay counts
  pub highest : bit_at bits 25 ≡ 1
  pub points :
      (point : ℕ) → 1 ≤ point → point ≤ 24
      → (bit_at bits point ≡ 1) ↔ (0 < slice_index counts point)

-- the points of the first layouts of so many checkers, by rising rank
pub record AreFirstPoints (checkers : ℕ) (all : List ℕ) : Type 0 where
  pub few : length all ≤ layouts checkers
  pub each :
      (rank : ℕ) → rank < length all
      → AreOtherPoints (slice_index all rank) (layout_at checkers rank)
