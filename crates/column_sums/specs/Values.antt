-- The value that a row gives to a placement.
use Rattle.std.specs.Prelude.{ℕ, suc, ℤ, pos, List, [], ◌∷◌, Option, None, slice_index_or, if◌then◌else◌}
use Rattle.std.specs.Str.{bytes_eq}
use Rattle.position_rank.specs.Placement.{Placement}
use Rattle.position_rank.specs.Ranks.{rank_of}
use Rattle.column_sums.specs.Cascade.{or_value}
use Rattle.column_sums.specs.Cells.{cell_of}

-- the number of the first of these layouts that is this one
abbrev pub index_in : List (List ℕ) → List ℕ → ℕ
index_in [] wanted = 0
index_in (other ∷ others) wanted = if bytes_eq other wanted then 0 else suc (index_in others wanted)

-- what the row of a column has for a placement, where the other side's checkers are one of these layers
abbrev pub cell_value : List (List ℕ) → List (Option ℤ) → Placement → ℤ
cell_value others row q =
    or_value (slice_index_or row (cell_of (index_in others q.other) (rank_of q.mover)) None) (pos 0)
