use Rattle.std.proofs.Common.{◌≡◌, ◌<◌, ℕ, length, get_or}
use Rattle.position_rank.specs.Points.{AreOtherPoints}
use Rattle.column_sums.specs.Leaps.{layout_at}
use Rattle.column_turns.proofs.movers.points_of.Given as goal

-- those of the layouts so far
abbrev pub invariant-loop-rank : goal.invariant-loop-rank
invariant-loop-rank l = record {
  many : length l.points.items ≡ l.rank;
  each : (rank : ℕ) → rank < l.rank → AreOtherPoints (get_or l.points.items rank 0) (layout_at l.column.layouts rank);
}
