-- Cells whose values were found by looking words up.
use Rattle.std.specs.Prelude.{◌≡◌, ◌<◌, ℕ, ℤ, Bool, List, length, Option, Some, None, slice_index_or}
use Rattle.position_rank.specs.Placement.{Placement, IsPosition}
use Rattle.directed_fixed.specs.declared.bounds.End.{End}
use Rattle.cube_actions.specs.declared.kind.Kind.{Kind}
use Rattle.turn_rule.specs.Looks.{Source, Notes}
use Rattle.turn_rule.specs.Found.{IsFoundOf, LeavesState, of_play}
use Rattle.column_sums.specs.Leaps.{layout_at}
use Rattle.column_sums.specs.Cells.{cell_of}
use Rattle.column_sums.specs.Needed.{IsNeeded}

-- where the checkers stand in the cell of a layer and a rank
abbrev pub placement_of : List (List ℕ) → List (List ℕ) → ℕ → ℕ → Placement
placement_of layouts others layer rank = record {
  mover = layout_at layouts rank;
  other = layout_at others layer;
}

-- where a play may leave the position of a cell that is needed, its value is what was found of it, at one end in a kind
abbrev pub AreFoundCells : End → Source → Notes → Kind → List (List ℕ) → List (List ℕ)
    → List Bool → List (Option ℤ) → Type 0
AreFoundCells end source noted kind layouts others needed row =
    (layer rank : ℕ) → layer < length others → rank < length layouts
    → IsNeeded needed (cell_of layer rank)
    → IsPosition (placement_of layouts others layer rank)
    → LeavesState source kind.next (placement_of layouts others layer rank)
    → (x : ℤ) × (slice_index_or row (cell_of layer rank) None ≡ Some x)
    × IsFoundOf end (of_play kind (placement_of layouts others layer rank)) source noted x
