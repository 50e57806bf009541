use Rattle.std.proofs.Common.{◌≡◌, ℕ, ◌<◌, ◌≤◌, true}
use Rattle.worker_sweep.specs.Workers.{WorksAt, IsOnUnmarked, is_marked}
use Rattle.interval_words.specs.Seats.{KeepsNotes, AddsWork}
use Rattle.worker_sweep.proofs.worker.Worker.sweep_rest.Given as goal

abbrev pub invariant-loop-block : goal.invariant-loop-block
invariant-loop-block l = record {
  works : WorksAt l.board l.self;
  seat : KeepsNotes l.initial.self.seat l.self.seat;
  marks : (block : ℕ) → block < l.block → is_marked l.self.marks block ≡ true;
  later : (block : ℕ) → l.block ≤ block → is_marked l.self.marks block ≡ is_marked l.initial.self.marks block;
  work : AddsWork (IsOnUnmarked l.board.game l.initial.self) l.initial.self.seat.view.work l.self.seat.view.work;
  claims : l.self.claims ≡ l.initial.self.claims;
  number : l.self.number ≡ l.initial.self.number;
}
