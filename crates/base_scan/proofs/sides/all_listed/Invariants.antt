use Rattle.std.proofs.Common.{◌≡◌, ◌<◌, ℕ, length, slice_index_or}
use Rattle.position_rank.specs.Ranks.{rank_of}
use Rattle.base_scan.specs.declared.sides.Listed.{Listed}
use Rattle.base_scan.specs.Sides.{IsLayoutListed}
use Rattle.base_scan.proofs.sides.all_listed.Given as goal

abbrev pub invariant-loop-rank : goal.invariant-loop-rank
invariant-loop-rank l = record {
  many : length l.all.items ≡ l.rank;
  each : (rank : ℕ) (none : Listed) → rank < length l.all.items → IsLayoutListed l.checkers (slice_index_or l.all.items rank none);
  ranked : (rank : ℕ) (none : Listed) → rank < length l.all.items → rank_of (slice_index_or l.all.items rank none).layout ≡ rank;
}
