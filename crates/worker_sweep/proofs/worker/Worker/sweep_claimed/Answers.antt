use Rattle.std.proofs.Common.{refl}
use Rattle.interval_words.proofs.SeatNotes.{keeps-refl}
use Rattle.worker_sweep.proofs.Going.{went-none}
use Rattle.worker_sweep.proofs.worker.Worker.sweep_claimed.Goals as goal

pub loop-block-init : goal.loop-block-init
loop-block-init g c = record {
  works = c.requires.works;
  seat = keeps-refl _;
  many = refl;
  claims = refl;
  number = refl;
  round = c.requires.round;
  through = went-none c.args.board.now.game c.args.round _;
}
