use Rattle.std.proofs.Common.{◌≡◌, ◌+◌, length}
use Rattle.interval_words.specs.Seats.{KeepsNotes}
use Rattle.worker_sweep.specs.Workers.{WorksAt, WentThrough}
use Rattle.worker_sweep.proofs.worker.Worker.sweep_claimed.Given as goal

abbrev pub invariant-loop-block : goal.invariant-loop-block
invariant-loop-block g l = record {
  works : WorksAt l.board l.self;
  seat : KeepsNotes l.initial.self.seat l.self.seat;
  many : length l.self.marks ≡ length l.initial.self.marks;
  claims : l.self.claims.table ≡ l.initial.self.claims.table;
  number : l.self.number ≡ l.initial.self.number;
  round : l.round ≡ l.self.seat.view.base + 1;
  through : WentThrough l.board.game l.round l.block l.initial.self l.self;
}
