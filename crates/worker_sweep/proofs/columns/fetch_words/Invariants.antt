use Rattle.std.proofs.Common.{◌≡◌}
use Rattle.interval_words.specs.Seats.{KeepsNotes}
use Rattle.worker_sweep.proofs.columns.fetch_words.Given as goal

abbrev pub invariant-loop-i : goal.invariant-loop-i
invariant-loop-i l = record {
  board : l.pairs.board.now ≡ l.initial.pairs.board.now;
  kept : KeepsNotes l.initial.pairs.seat l.pairs.seat;
  work : l.pairs.seat.view.work ≡ l.initial.pairs.seat.view.work;
}
