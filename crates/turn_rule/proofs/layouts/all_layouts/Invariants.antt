use Rattle.std.proofs.Common.{◌≡◌, ◌<◌, ℕ, List, length, slice_index_or}
use Rattle.turn_rule.specs.Layouts.{HasRank}
use Rattle.turn_rule.proofs.layouts.all_layouts.Given as goal

abbrev pub invariant-loop-rank : goal.invariant-loop-rank
invariant-loop-rank l = record {
  many : length l.all.items ≡ l.rank;
  each : (rank : ℕ) (none : List ℕ) → rank < length l.all.items → HasRank l.checkers rank (slice_index_or l.all.items rank none);
}
