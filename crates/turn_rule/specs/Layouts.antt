-- The layouts of so many checkers, and the pairs of them.
use Rattle.std.specs.Prelude.{◌≡◌, ℕ, ◌<◌, ◌*◌, List, length, slice_index_or, sum}
use Rattle.position_rank.specs.Placement.{IsLayout}
use Rattle.position_rank.specs.Ranks.{layouts, rank_of}

-- the layout of so many checkers with this rank
pub record HasRank (checkers rank : ℕ) (layout : List ℕ) : Type 0 where
  pub valid : IsLayout layout
  pub many : sum layout ≡ checkers
  pub ranked : rank_of layout ≡ rank

-- all layouts of so many checkers, by rising rank
pub record AreLayouts (checkers : ℕ) (all : List (List ℕ)) : Type 0 where
  pub many : length all ≡ layouts checkers
  pub each :
      (rank : ℕ) (none : List ℕ) → rank < length all
      → HasRank checkers rank (slice_index_or all rank none)

-- how many pairs of layouts there are of so many checkers
abbrev pub squares_of : ℕ → ℕ
squares_of checkers = layouts checkers * layouts checkers
