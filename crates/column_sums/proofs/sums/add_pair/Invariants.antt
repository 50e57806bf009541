use Rattle.std.proofs.Common.{◌≡◌, ◌≤◌, ◌<◌, ℕ, ℤ}
use Rattle.position_rank.specs.Placement.{Placement}
use Rattle.directed_fixed.specs.declared.bounds.End.{End}
use Rattle.column_sums.specs.Cascade.{best_pair}
use Rattle.column_sums.specs.Sums.{PairTables, IsAdded, mover_placement, sum_at}
use Rattle.column_sums.specs.Worths.{cells_at, worths_at}
use Rattle.column_sums.proofs.sums.add_pair.Given as goal

abbrev pub invariant-loop-i : goal.invariant-loop-i
invariant-loop-i g l = record {
  added : (end : End) (k : ℕ) → k < l.i → IsAdded 2 (λ (best : ℤ). (value : Placement → ℤ) → PairTables value l.moves l.high l.low (cells_at end l.row) (cells_at end l.after_high) (cells_at end l.after_low) → best ≡ best_pair value l.high l.low (mover_placement l.moves k)) (sum_at (worths_at end l.fn.sums) k) (sum_at (worths_at end l.sums) k);
  rest : (end : End) (k : ℕ) → l.i ≤ k → sum_at (worths_at end l.sums) k ≡ sum_at (worths_at end l.fn.sums) k;
}
