use Rattle.std.proofs.Common.{◌≡◌, ℕ, ◌<◌, ◌≤◌, ◌||◌, length}
use Rattle.worker_sweep.specs.Workers.{is_marked}
use Rattle.worker_sweep.proofs.worker.move_marks.Given as goal

abbrev pub invariant-loop-block : goal.invariant-loop-block
invariant-loop-block l = record {
  many : length l.to.items ≡ length l.initial.to.items;
  before : (block : ℕ) → block < l.block → is_marked l.to.items block ≡ (is_marked l.initial.to.items block || is_marked l.from.items block);
  after : (block : ℕ) → l.block ≤ block → is_marked l.to.items block ≡ is_marked l.initial.to.items block;
}
