use Rattle.std.proofs.Common.{◌≡◌, ◌<◌, ◌+◌, ℕ, ℤ, List, [], ◌∷◌, length, slice_index_or}
use Rattle.position_rank.specs.Placement.{Placement}
use Rattle.column_sums.specs.Tables.{IsNeededRow}
use Rattle.directed_fixed.specs.declared.bounds.End.{End}
use Rattle.column_sums.specs.declared.best.Bests.{Bests}
use Rattle.column_sums.specs.Sums.{AreRightTo}
use Rattle.column_sums.specs.Worths.{cells_at}
use Rattle.column_sums.specs.declared.moves.DieList.{DieList}
use Rattle.column_sums.proofs.sums.fill_ones.Given as goal

abbrev pub invariant-loop-d : goal.invariant-loop-d
invariant-loop-d l = record {
  six : length l.ones ≡ 6;
  filled : (end : End) (value : Placement → ℤ) → IsNeededRow value l.moves.steps l.moves.layers l.moves.needed.items (cells_at end l.row)
      → (i : ℕ) (none : List Bests) → i < l.d → (list : DieList)
      → AreRightTo value ((i + 1) ∷ []) l.moves (cells_at end (slice_index_or l.ones i none)) (slice_index_or l.moves.lists i list).reaches.items (length (slice_index_or l.moves.lists i list).reaches.items);
}
