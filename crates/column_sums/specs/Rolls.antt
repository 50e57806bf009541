-- The best play of a roll, from tables.
use Rattle.std.specs.Prelude.{ℕ, ℤ, pos, List, Option, None, slice_index_or}
use Rattle.column_sums.specs.Cascade.{or_max, or_value}
use Rattle.column_sums.specs.Tables.{best_after}
use Rattle.column_sums.specs.declared.cells.Reach.{Reach}

-- the higher die, else the lower one, else none
abbrev pub fewer_of_pair : ℕ → List (Option ℤ) → List (Option ℤ) → List (Option ℤ) → ℤ
fewer_of_pair cell row after_high after_low =
    or_value (slice_index_or after_high cell None)
    (or_value (slice_index_or after_low cell None)
    (or_value (slice_index_or row cell None) (pos 0)))

-- three dice, else two, else one, else none
abbrev pub fewer_of_double : ℕ → List (Option ℤ) → List (Option ℤ) → List (Option ℤ)
    → List (Option ℤ) → ℤ
fewer_of_double cell row one two three =
    or_value (slice_index_or three cell None) (or_value (slice_index_or two cell None)
    (or_value (slice_index_or one cell None) (or_value (slice_index_or row cell None) (pos 0))))

-- both dice in the better order, else fewer
abbrev pub pair_found : Reach → Reach → List (Option ℤ) → List (Option ℤ) → List (Option ℤ) → ℤ
pair_found high low row after_high after_low =
    or_value (or_max (best_after after_low high) (best_after after_high low))
    (fewer_of_pair high.cell row after_high after_low)

-- all four dice, else fewer
abbrev pub double_found : Reach → List (Option ℤ) → List (Option ℤ) → List (Option ℤ)
    → List (Option ℤ) → ℤ
double_found reach row one two three =
    or_value (best_after three reach) (fewer_of_double reach.cell row one two three)
