-- A row: for each cell of a column, what a turn that ends there is worth. A cell tells which layer the other side is left with, and the rank
-- of the mover's layout.
use Rattle.std.specs.Prelude.{◌≡◌, ◌<◌, ◌*◌, ℕ, ℤ, Bool, All, List, [], length, Option, Some, None, slice_index_or, slice_set}
use Rattle.position_rank.specs.Placement.{Placement, IsPosition}
use Rattle.directed_fixed.specs.declared.bounds.End.{End}
use Rattle.cube_actions.specs.declared.kind.Kind.{Kind}
use Rattle.cube_actions.specs.Stakes.{Terms, kind_at}
use Rattle.turn_rule.specs.Looks.{Source, Notes}
use Rattle.turn_rule.specs.Found.{LeavesState, IsFoundOf, of_play}
use Rattle.column_sums.specs.Leaps.{layout_at}
use Rattle.column_sums.specs.Cells.{cell_of}
use Rattle.column_sums.specs.Needed.{IsNeeded}
use Rattle.column_sums.specs.Tables.{AreRow}
use Rattle.column_sums.specs.Worths.{cells_at, worth_at}
use Rattle.column_sums.specs.declared.best.Bests.{Bests}
use Rattle.column_sums.specs.declared.best.Worths.{Worths}

abbrev pub at_cell : List (Option ℤ) → ℕ → ℕ → Option ℤ
at_cell row layer rank = slice_index_or row (cell_of layer rank) None

-- where a play may leave these checkers, there is a value, which was found of what the mover then has
abbrev pub IsFoundEnd : End → Source → Notes → Kind → Placement → Option ℤ → Type 0
IsFoundEnd end source noted kind left worth =
    IsPosition left → LeavesState source kind.next left
    → (x : ℤ) × (worth ≡ Some x) × IsFoundOf end (of_play kind left) source noted x

-- so it is of those among the first few cells of a layer that are needed
abbrev pub AreFoundTo : End → Source → Notes → Kind → List (List ℕ) → List ℕ → List Bool
    → List (Option ℤ) → ℕ → ℕ → Type 0
AreFoundTo end source noted kind layouts other needed row layer count =
    (rank : ℕ) → rank < count → IsNeeded needed (cell_of layer rank)
    → IsFoundEnd end source noted kind (record { mover = layout_at layouts rank; other = other })
    (at_cell row layer rank)

-- so it is of all needed cells of the first few layers
abbrev pub AreFoundLayers : End → Source → Notes → Kind → List (List ℕ) → List (List ℕ) → List Bool
    → List (Option ℤ) → ℕ → Type 0
AreFoundLayers end source noted kind layouts others needed row count =
    (layer : ℕ) → layer < count
    → AreFoundTo end source noted kind layouts (layout_at others layer) needed row layer
    (length layouts)

-- the layers before this one have the same values
abbrev pub IsSameBefore : ℕ → List (Option ℤ) → List (Option ℤ) → Type 0
IsSameBefore layer old new =
    (cell : ℕ) → cell < layer * 4096 → slice_index_or new cell None ≡ slice_index_or old cell None

-- a row for each kind
pub record AreRows (kinds : ℕ) (rows : List (List Bests)) : Type 0 where
  pub many : length rows ≡ kinds
  pub each : All AreRow rows

-- a kind's row
abbrev pub row_of : List (List Bests) → ℕ → List Bests
row_of rows k = slice_index_or rows k []

-- what it has at this end
abbrev pub row_at : End → List (List Bests) → ℕ → List (Option ℤ)
row_at end rows k = cells_at end (row_of rows k)

-- in one cell of one of the rows a worth was put, at both ends
pub record AreWorthsPut (number layer rank : ℕ) (worths : Worths)
    (old new : List (List Bests)) : Type 0 where
  pub row : List Bests
  pub put : new ≡ slice_set old number row
  pub cells : (end : End) → cells_at end row
      ≡ slice_set (row_at end old number) (cell_of layer rank) (Some (worth_at end worths))

-- in one cell of a row a value was put, which was found of what the mover has after a play that leaves these checkers
abbrev pub IsWorthPut : End → Source → Notes → Kind → Placement → ℕ → ℕ → List (Option ℤ)
    → List (Option ℤ) → Type 0
IsWorthPut end source noted kind left layer rank old new =
    (x : ℤ) × (new ≡ slice_set old (cell_of layer rank) (Some x))
    × (LeavesState source kind.next left → IsFoundOf end (of_play kind left) source noted x)

-- so it was in the rows of the first few kinds
abbrev pub ArePut : End → Source → Notes → Terms → Placement → ℕ → ℕ → List (List Bests)
    → List (List Bests) → ℕ → Type 0
ArePut end source noted stakes left layer rank old new count =
    (k : ℕ) → k < count
    → IsWorthPut end source noted (kind_at stakes k) left layer rank (row_at end old k)
    (row_at end new k)

-- in each kind's row the layers before this one have the same values, and the needed ones among the first few cells of this one were found
pub record AreFoundRowsTo (end : End) (source : Source) (noted : Notes) (stakes : Terms)
    (layouts : List (List ℕ)) (other : List ℕ) (needed : List Bool)
    (old new : List (List Bests)) (layer count : ℕ) : Type 0 where
  pub same : (k : ℕ) → k < length stakes.kinds → IsSameBefore layer (row_at end old k)
      (row_at end new k)
  pub found : (k : ℕ) → k < length stakes.kinds
      → AreFoundTo end source noted (kind_at stakes k) layouts other needed
      (row_at end new k) layer count

-- in each kind's row all needed cells of the first few layers were found
abbrev pub AreFoundRows : End → Source → Notes → Terms → List (List ℕ) → List (List ℕ) → List Bool
    → List (List Bests) → ℕ → Type 0
AreFoundRows end source noted stakes layouts others needed rows count =
    (k : ℕ) → k < length stakes.kinds
    → AreFoundLayers end source noted (kind_at stakes k) layouts others needed
    (row_at end rows k) count
