-- The moves that a column needs: of each die, the cells that can be reached by it, dice after dice.
use Rattle.std.specs.Prelude.{◌≡◌, ◌⊎◌, ◌≤◌, ◌<◌, ◌-◌, ℕ, All, IsFalse, List, [], length, slice_index, slice_index_or, vec_capacity}
use Rattle.column_sums.specs.Cells.{no_cell, IsReach}
use Rattle.column_sums.specs.Needed.{AreNeeded}
use Rattle.column_sums.specs.Tables.{HasNoThird}
use Rattle.column_sums.specs.declared.cells.Reach.{Reach}
use Rattle.column_sums.specs.declared.moves.DieList.{DieList}
use Rattle.column_sums.specs.declared.moves.Moves.{Moves}

-- for the first few of these cells, what a die leads to
pub record AreReaches (layouts others : List (List ℕ)) (die : ℕ) (cells : List ℕ)
    (reaches : List Reach) : Type 0 where
  pub few : length reaches ≤ length cells
  pub each : (i : ℕ) (none : Reach) → i < length reaches
      → IsReach layouts others die (slice_index_or reaches i none)
  pub at : (i : ℕ) (none : Reach) → i < length reaches
      → (slice_index_or reaches i none).cell ≡ slice_index cells i

-- the cells of the first few
abbrev pub IsAmong : List Reach → ℕ → ℕ → Type 0
IsAmong reaches end cell =
    (i : ℕ) × (i < end) × ((none : Reach) → (slice_index_or reaches i none).cell ≡ cell)

abbrev pub IsAmongOrNone : List Reach → ℕ → ℕ → Type 0
IsAmongOrNone reaches end cell = (cell ≡ no_cell) ⊎ IsAmong reaches end cell

-- wherever this leads to is among the first few
pub record LeadsAmong (reaches : List Reach) (end : ℕ) (reach : Reach) : Type 0 where
  pub first : IsAmongOrNone reaches end reach.first
  pub second : IsAmongOrNone reaches end reach.second
  pub third : IsAmongOrNone reaches end reach.third

-- What a die leads to: first from the cells where the mover's turn begins, then from these cells, which any one die may lead to from
-- there, and then from those that one die more and two dice more of this number may lead to.
pub record IsDieList (layouts others : List (List ℕ)) (near : List ℕ) (begun die : ℕ)
    (list : DieList) : Type 0 where
  pub first : begun ≤ length near
  pub longer : length near ≤ list.second
  pub second : list.second ≤ length list.reaches.items
  pub few : length list.reaches.items ≤ 32768
  pub each : (i : ℕ) (none : Reach) → i < length list.reaches.items
      → IsReach layouts others die (slice_index_or list.reaches.items i none)
  pub at : (i : ℕ) (none : Reach) → i < length near
      → (slice_index_or list.reaches.items i none).cell ≡ slice_index near i
  pub one_die : (i : ℕ) (none : Reach) → i < begun
      → LeadsAmong list.reaches.items (length near) (slice_index_or list.reaches.items i none)
  pub two_dice : (i : ℕ) (none : Reach) → i < length near
      → LeadsAmong list.reaches.items list.second (slice_index_or list.reaches.items i none)
  pub three_dice : (i : ℕ) (none : Reach) → i < list.second
      → LeadsAmong list.reaches.items (length list.reaches.items)
      (slice_index_or list.reaches.items i none)

-- room for what a die leads to from all cells
abbrev pub HasListRoom : DieList → Type 0
HasListRoom list = 32768 ≤ vec_capacity list.reaches

-- six lists with room
pub record AreRooms (lists : List DieList) : Type 0 where
  pub six : length lists ≡ 6
  pub room : (i : ℕ) (none : DieList) → i < 6 → HasListRoom (slice_index_or lists i none)

-- a turn begins in the first few of the cells, with the other side's layout of the first layer
abbrev pub AreMovers : ℕ → List ℕ → ℕ → Type 0
AreMovers many cells movers = (i : ℕ) → i < movers → slice_index cells i < many

-- a turn begins with this layout of the mover
abbrev pub IsMover : List ℕ → ℕ → ℕ → Type 0
IsMover cells movers rank = (i : ℕ) × (i < movers) × (slice_index cells i ≡ rank)

-- for each die, what it leads to from the first few of these cells, and from no others
pub record AreBegun (layouts others : List (List ℕ)) (cells : List ℕ) (movers : ℕ)
    (lists : List DieList) : Type 0 where
  pub reaches : (die : ℕ) (none : DieList) → 1 ≤ die → die ≤ 6
      → AreReaches layouts others die cells (slice_index_or lists (die - 1) none).reaches.items
  pub many : (die : ℕ) (none : DieList) → 1 ≤ die → die ≤ 6
      → length (slice_index_or lists (die - 1) none).reaches.items ≡ movers

-- nothing is in this list
pub record IsEmpty (list : DieList) : Type 0 where
  pub reaches : list.reaches.items ≡ []
  pub second : list.second ≡ 0

-- for each die, its list
abbrev pub AreDieLists : List (List ℕ) → List (List ℕ) → List ℕ → ℕ → List DieList → Type 0
AreDieLists layouts others near movers lists =
    (die : ℕ) (none : DieList) → 1 ≤ die → die ≤ 6
    → IsDieList layouts others near movers die (slice_index_or lists (die - 1) none)

-- no cell leads to a third by any die
abbrev pub LeadToTwo : List DieList → Type 0
LeadToTwo lists = (i : ℕ) (none : DieList) → i < 6
    → All HasNoThird (slice_index_or lists i none).reaches.items

-- all is listed, and each layer has room for all layouts
pub record AreReady (moves : Moves) : Type 0 where
  pub few : length moves.steps ≤ 3276
  pub eight : length moves.layers ≤ 8
  pub rooms : AreRooms moves.lists
  pub within : moves.movers ≤ length moves.listing
  pub begun : AreMovers (length moves.steps) moves.listing moves.movers
  pub each : AreDieLists moves.steps moves.layers moves.listing moves.movers moves.lists
  pub needed : AreNeeded moves.listing moves.lists moves.needed.items
  pub two_cells : IsFalse moves.has_third → LeadToTwo moves.lists
