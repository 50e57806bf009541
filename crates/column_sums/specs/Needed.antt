-- Cells of a column whose values its sums are made of: those where a turn begins, and those that the dice lead to.
use Rattle.std.specs.Prelude.{◌≡◌, ◌<◌, ℕ, Bool, true, false, All, List, length, slice_index, slice_index_or}
use Rattle.column_sums.specs.declared.cells.Reach.{Reach}
use Rattle.column_sums.specs.declared.moves.DieList.{DieList}

-- this cell is marked as needed
abbrev pub IsNeeded : List Bool → ℕ → Type 0
IsNeeded needed cell = slice_index_or needed cell false ≡ true

-- as many marks, and what was needed still is
pub record AreNeededStill (old new : List Bool) : Type 0 where
  pub many : length new ≡ length old
  pub kept : (cell : ℕ) → IsNeeded old cell → IsNeeded new cell

-- wherever this leads to is needed
pub record LeadsToNeeded (needed : List Bool) (reach : Reach) : Type 0 where
  pub first : IsNeeded needed reach.first
  pub second : IsNeeded needed reach.second
  pub third : IsNeeded needed reach.third

-- wherever the list of a die leads to is needed
abbrev pub AreEndsNeeded : List DieList → List Bool → Type 0
AreEndsNeeded lists needed = (i : ℕ) (none : DieList) → i < 6
    → All (LeadsToNeeded needed) (slice_index_or lists i none).reaches.items

-- there is a mark for each cell, and these cells are needed, and all that the lists of the dice lead to
pub record AreNeeded (cells : List ℕ) (lists : List DieList) (needed : List Bool) : Type 0 where
  pub many : length needed ≡ 32768
  pub listed : (i : ℕ) → i < length cells → IsNeeded needed (slice_index cells i)
  pub ends : AreEndsNeeded lists needed
