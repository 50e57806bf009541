-- Tables of a column: a value for each cell.
use Rattle.std.specs.Prelude.{◌≡◌, ◌≢◌, ◌<◌, ℕ, ℤ, Bool, All, List, [], length, Option, Some, None, slice_index_or}
use Rattle.position_rank.specs.Placement.{Placement}
use Rattle.column_sums.specs.Cascade.{or_max, best_over}
use Rattle.column_sums.specs.Leaps.{layout_at}
use Rattle.directed_fixed.specs.declared.bounds.End.{End}
use Rattle.column_sums.specs.Cells.{no_cell, cell_of, best_from}
use Rattle.column_sums.specs.Needed.{IsNeeded}
use Rattle.column_sums.specs.Worths.{cells_at}
use Rattle.column_sums.specs.declared.best.Bests.{Bests}
use Rattle.column_sums.specs.declared.cells.Reach.{Reach}

-- a value for each cell, and none for a move that can't be made
pub record IsTableOfCells (cells : List (Option ℤ)) : Type 0 where
  pub many : length cells ≡ 32768
  pub missing : slice_index_or cells no_cell None ≡ None

-- the same, where each cell has a value
pub record IsRow (cells : List (Option ℤ)) : Type 0 where
  pub many : length cells ≡ 32768
  pub missing : slice_index_or cells no_cell None ≡ None
  pub filled : (cell : ℕ) → cell < 32768 → cell ≢ no_cell → (x : ℤ)
      × (slice_index_or cells cell None ≡ Some x)

-- so it is at both ends
pub record AreTable (cells : List Bests) : Type 0 where
  pub many : length cells ≡ 32768
  pub each : (end : End) → IsTableOfCells (cells_at end cells)

pub record AreRow (cells : List Bests) : Type 0 where
  pub many : length cells ≡ 32768
  pub each : (end : End) → IsRow (cells_at end cells)

-- in each cell of each layer that is needed, the value with no dice to play
abbrev pub IsNeededRow : (Placement → ℤ) → List (List ℕ) → List (List ℕ) → List Bool
    → List (Option ℤ) → Type 0
IsNeededRow value layouts others needed row =
    (layer rank : ℕ) → layer < length others → rank < length layouts
    → IsNeeded needed (cell_of layer rank)
    → slice_index_or row (cell_of layer rank) None
    ≡ best_over value []
    (record { mover = layout_at layouts rank; other = layout_at others layer })

-- in this cell, the greatest value that these dice lead to
abbrev pub IsRightAt : (Placement → ℤ) → List ℕ → List (List ℕ) → List (List ℕ) → List (Option ℤ)
    → ℕ → Type 0
IsRightAt value dice layouts others table cell =
    slice_index_or table cell None ≡ best_from value dice layouts others cell

-- the same in all cells that this leads to
pub record IsRightAfter (value : Placement → ℤ) (dice : List ℕ) (layouts others : List (List ℕ))
    (table : List (Option ℤ)) (reach : Reach) : Type 0 where
  pub first : IsRightAt value dice layouts others table reach.first
  pub second : IsRightAt value dice layouts others table reach.second
  pub third : IsRightAt value dice layouts others table reach.third

-- the same in the cells of these
abbrev pub AreRightIn : (Placement → ℤ) → List ℕ → List (List ℕ) → List (List ℕ) → List (Option ℤ)
    → List Reach → Type 0
AreRightIn value dice layouts others table reaches =
    All (λ reach. IsRightAt value dice layouts others table reach.cell) reaches

-- these are within a table, and none of them is the missing cell
pub record IsReachWithin (reach : Reach) : Type 0 where
  pub cell : reach.cell < 32768
  pub some : reach.cell ≢ no_cell
  pub first : reach.first < 32768
  pub second : reach.second < 32768
  pub third : reach.third < 32768

-- it leads to two cells at most
abbrev pub HasNoThird : Reach → Type 0
HasNoThird reach = reach.third ≡ no_cell

-- the greatest value of the cells that this leads to
abbrev pub best_after : List (Option ℤ) → Reach → Option ℤ
best_after table reach =
    or_max (or_max (slice_index_or table reach.first None) (slice_index_or table reach.second None))
    (slice_index_or table reach.third None)
