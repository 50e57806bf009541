-- Cells of a column: where a turn may stand in it. A cell's number tells which layer the other side is left with, and the rank of the
-- mover's layout.
use Rattle.std.specs.Prelude.{◌≡◌, ◌⊎◌, ◌<◌, ◌+◌, ◌*◌, ◌/◌, ◌%◌, ℕ, zero, suc, ℤ, List, [], ◌∷◌, length, Option, None, slice_index, nat_lt, ◌&&◌, if◌then◌else◌}
use Rattle.position_rank.specs.Placement.{Placement}
use Rattle.column_sums.specs.Cascade.{or_max, best_over}
use Rattle.column_sums.specs.Leaps.{layout_at}
use Rattle.column_sums.specs.declared.leaps.Leap.{Leap}
use Rattle.column_sums.specs.declared.cells.Reach.{Reach}

-- stands for the cell after a move that can't be made
abbrev pub no_cell : ℕ
no_cell = 4095

-- the cell of a layer and a rank
abbrev pub cell_of : ℕ → ℕ → ℕ
cell_of layer rank = layer * 4096 + rank

-- a cell of so many layouts and so many layers
pub record IsCell (many layers cell : ℕ) : Type 0 where
  pub rank : cell % 4096 < many
  pub layer : cell / 4096 < layers

abbrev pub IsCellOrNone : ℕ → ℕ → ℕ → Type 0
IsCellOrNone many layers cell = (cell ≡ no_cell) ⊎ IsCell many layers cell

-- where the checkers stand in a cell
abbrev pub cell_placement : List (List ℕ) → List (List ℕ) → ℕ → Placement
cell_placement layouts others cell = record {
  mover = layout_at layouts (cell % 4096);
  other = layout_at others (cell / 4096);
}

-- the greatest value that these dice lead to from a cell
unfoldable pub best_from : (Placement → ℤ) → List ℕ → List (List ℕ) → List (List ℕ) → ℕ → Option ℤ
best_from value dice layouts others cell =
    if nat_lt (cell % 4096) (length layouts) && nat_lt (cell / 4096) (length others)
    then best_over value dice (cell_placement layouts others cell)
    else None

-- the cell after a leap from a layer, whose points lead to these layers
abbrev pub leap_cell : ℕ → List ℕ → Leap → ℕ
leap_cell layers next leap =
    if nat_lt (slice_index next leap.lands) layers
    then cell_of (slice_index next leap.lands) leap.to
    else no_cell

-- the same after the leap with this number, if there is one
abbrev pub nth_cell : ℕ → List ℕ → List Leap → ℕ → ℕ
nth_cell layers next [] i = no_cell
nth_cell layers next (leap ∷ leaps) zero = leap_cell layers next leap
nth_cell layers next (leap ∷ leaps) (suc i) = nth_cell layers next leaps i

-- a leap from a layer with so many points to one of fewer layouts than a layer has room for
pub record IsShort (points : ℕ) (leap : Leap) : Type 0 where
  pub lands : leap.lands < points
  pub to : leap.to < 4095

-- a cell with those that a die leads to from it: with one die more, the best of it is the best of these
pub record IsReach (layouts others : List (List ℕ)) (die : ℕ) (reach : Reach) : Type 0 where
  pub cell : IsCell (length layouts) (length others) reach.cell
  pub first : IsCellOrNone (length layouts) (length others) reach.first
  pub second : IsCellOrNone (length layouts) (length others) reach.second
  pub third : IsCellOrNone (length layouts) (length others) reach.third
  pub best : (value : Placement → ℤ) (dice : List ℕ)
      → best_over value (die ∷ dice) (cell_placement layouts others reach.cell)
      ≡ or_max (or_max (best_from value dice layouts others reach.first)
      (best_from value dice layouts others reach.second))
      (best_from value dice layouts others reach.third)
