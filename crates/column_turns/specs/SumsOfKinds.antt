-- The sums of a column's kinds, from rows of what was found.
use Rattle.std.specs.Prelude.{◌≡◌, ◌≢◌, ◌<◌, ℕ, ℤ, pos, List, length, slice_index_or}
use Rattle.directed_fixed.specs.declared.bounds.End.{End}
use Rattle.cube_actions.specs.Stakes.{Terms, kind_at}
use Rattle.turn_rule.specs.Looks.{Source, Notes, AreStakesOf}
use Rattle.column_sums.specs.ColumnOf.{ColumnOf}
use Rattle.column_sums.specs.Leaps.{layout_at}
use Rattle.column_sums.specs.declared.best.Bests.{Bests}
use Rattle.column_turns.specs.Rows.{AreFoundLayers, AreFoundRows, row_at}
use Rattle.column_turns.specs.Turns.{AreSumsOf, AreSumsOfKind, IsColumnOf, mover_at, place_in}

-- at this end, what was found in the needed cells makes the sums of a kind found
abbrev pub IsKindFound : End → Terms → ℕ → ColumnOf → List (List Bests) → List ℤ → Type 0
IsKindFound end stakes k column rows sums =
    (source : Source) (noted : Notes) → AreStakesOf source stakes
    → IsColumnOf source column.layouts column.others column.movers
    → AreFoundLayers end source noted (kind_at stakes k) column.layouts column.others column.needed
    (row_at end rows k) (length column.others)
    → AreSumsOfKind end source noted stakes
    (mover_at column.layouts (layout_at column.others 0) column.movers) (length column.movers)
    k sums

-- so it makes those of the first few kinds
abbrev pub AreKindsFound : End → Terms → ℕ → ColumnOf → List (List Bests) → List ℤ → Type 0
AreKindsFound end stakes count column rows sums =
    (source : Source) (noted : Notes) → AreStakesOf source stakes
    → IsColumnOf source column.layouts column.others column.movers
    → AreFoundRows end source noted stakes column.layouts column.others column.needed rows
    (length column.others)
    → AreSumsOf end source noted stakes
    (mover_at column.layouts (layout_at column.others 0) column.movers) (length column.movers)
    count sums

-- the sums of the other kinds stay
abbrev pub AreOthersSame : ℕ → ℕ → List ℤ → List ℤ → Type 0
AreOthersSame kinds number old new = (i k : ℕ) → k < kinds → k ≢ number
    → slice_index_or new (place_in kinds i k) (pos 0)
    ≡ slice_index_or old (place_in kinds i k) (pos 0)
