-- Cells that are listed, each once.
use Rattle.std.specs.Prelude.{◌≡◌, ◌≢◌, ◌⊎◌, ◌≤◌, ◌<◌, ℕ, Bool, true, false, List, length, slice_index, slice_index_or}
use Rattle.column_sums.specs.Cells.{no_cell, IsCell, IsCellOrNone}
use Rattle.column_sums.specs.declared.cells.Reach.{Reach}

-- this cell is listed
abbrev pub IsListed : List ℕ → ℕ → Type 0
IsListed cells cell = (i : ℕ) × (i < length cells) × (slice_index cells i ≡ cell)

-- these cells are those that are marked, each once, and there is room for all cells
pub record IsListing (cells : List ℕ) (places : ℕ) (marks : List Bool) : Type 0 where
  pub room : 32768 ≤ places
  pub many : length marks ≡ 32768
  pub within : (i : ℕ) → i < length cells → slice_index cells i < 32768
  pub marked : (i : ℕ) → i < length cells → slice_index_or marks (slice_index cells i) false ≡ true
  pub listed : (cell : ℕ) → cell < 32768 → slice_index_or marks cell false ≡ true
      → IsListed cells cell
  pub apart : (i j : ℕ) → i < j → j < length cells → slice_index cells i ≢ slice_index cells j

-- the same cells at the same places, and more
pub record AreListedStill (old new : List ℕ) : Type 0 where
  pub longer : length old ≤ length new
  pub same : (i : ℕ) → i < length old → slice_index new i ≡ slice_index old i

abbrev pub IsListedOrNone : List ℕ → ℕ → Type 0
IsListedOrNone cells cell = (cell ≡ no_cell) ⊎ IsListed cells cell

-- each of them is a cell
abbrev pub AreCells : ℕ → ℕ → List ℕ → Type 0
AreCells many layers cells = (i : ℕ) → i < length cells → IsCell many layers (slice_index cells i)

-- wherever this leads to is listed
pub record LeadsInto (cells : List ℕ) (reach : Reach) : Type 0 where
  pub first : IsListedOrNone cells reach.first
  pub second : IsListedOrNone cells reach.second
  pub third : IsListedOrNone cells reach.third

-- it leads to cells
pub record LeadsToCells (many layers : ℕ) (reach : Reach) : Type 0 where
  pub first : IsCellOrNone many layers reach.first
  pub second : IsCellOrNone many layers reach.second
  pub third : IsCellOrNone many layers reach.third

-- the marks of the cells from one place on to another were taken off, and no others
pub record AreUnmarked (cells : List ℕ) (from to : ℕ) (old new : List Bool) : Type 0 where
  pub many : length new ≡ length old
  pub gone : (i : ℕ) → from ≤ i → i < to → slice_index_or new (slice_index cells i) false ≡ false
  pub kept : (cell : ℕ) → ((i : ℕ) → from ≤ i → i < to → slice_index cells i ≢ cell)
      → slice_index_or new cell false ≡ slice_index_or old cell false
  pub only : (cell : ℕ) → slice_index_or new cell false ≡ true
      → slice_index_or old cell false ≡ true
