-- A column: all positions with the same checkers of the other side.
use Rattle.std.specs.Prelude.{◌≡◌, ◌<◌, ℕ, ℤ, Bool, List, length, slice_index}
use Rattle.position_rank.specs.Placement.{Placement}
use Rattle.roll_table.specs.Rolls.{Dice}
use Rattle.column_sums.specs.Cascade.{best_sum}
use Rattle.column_sums.specs.Leaps.{layout_at}
use Rattle.column_sums.specs.Sums.{sum_at}

-- All layouts of as many checkers, the layers, which are the layouts that hits may leave the other side with, the ranks of the layouts of
-- the mover with which a turn may begin, and of each cell whether its value is needed.
pub record ColumnOf : Type 0 where
  pub layouts : List (List ℕ)
  pub others : List (List ℕ)
  pub movers : List ℕ
  pub needed : List Bool

-- the position with which a turn of one of the movers begins
abbrev pub begun_at : ColumnOf → ℕ → Placement
begun_at column i = record {
  mover = layout_at column.layouts (slice_index column.movers i);
  other = layout_at column.others 0;
}

-- for each mover, over some rolls, the sum of what the best play is worth
abbrev pub AreColumnSums : (Placement → ℤ) → ColumnOf → List (Dice × ℕ) → List ℤ → Type 0
AreColumnSums value column rolls sums =
    (i : ℕ) → i < length column.movers → sum_at sums i ≡ best_sum rolls value (begun_at column i)
