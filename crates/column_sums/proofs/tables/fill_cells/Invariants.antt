use Rattle.std.proofs.Common.{◌≤◌, ◌<◌, ℕ, ℤ, All, List, ◌∷◌, length, slice_index_or}
use Rattle.position_rank.specs.Placement.{Placement}
use Rattle.directed_fixed.specs.declared.bounds.End.{End}
use Rattle.column_sums.specs.declared.cells.Reach.{Reach}
use Rattle.column_sums.specs.Cells.{IsReach}
use Rattle.column_sums.specs.Tables.{AreTable, IsRightAfter, IsRightAt}
use Rattle.column_sums.specs.Worths.{cells_at}
use Rattle.column_sums.proofs.tables.fill_cells.Given as goal

abbrev pub invariant-loop-reach : goal.invariant-loop-reach
invariant-loop-reach g l = record {
  table : AreTable l.to;
  filled : (end : End) (value : Placement → ℤ) (dice : List ℕ) (layouts others : List (List ℕ)) (die : ℕ)
      → length layouts ≤ 3276 → All (IsReach layouts others die) l.reaches
      → All (IsRightAfter value dice layouts others (cells_at end l.from)) l.reaches
      → (i : ℕ) (none : Reach) → i < l.reach-index → IsRightAt value (die ∷ dice) layouts others (cells_at end l.to) (slice_index_or l.reaches i none).cell;
}
