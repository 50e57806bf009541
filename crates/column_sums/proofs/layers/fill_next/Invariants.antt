use Rattle.std.proofs.Common.{◌≡◌, ◌<◌, ℕ, [], length, slice_index_or}
use Rattle.column_sums.specs.Leaps.{AreNext}
use Rattle.column_sums.proofs.layers.fill_next.Given as goal

abbrev pub invariant-loop-layer : goal.invariant-loop-layer
invariant-loop-layer l = record {
  rows : length l.next ≡ 8;
  next : (layer : ℕ) → layer < l.layer → AreNext l.others layer (slice_index_or l.next layer []);
}
