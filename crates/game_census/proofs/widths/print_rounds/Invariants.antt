use Rattle.interval_words.specs.Seats.{SitsAt}
use Rattle.worker_sweep.specs.Workers.{WorksAt}
use Rattle.game_census.proofs.widths.print_rounds.Given as goal

abbrev pub invariant-loop-round : goal.invariant-loop-round
invariant-loop-round g l = record {
  sits : SitsAt l.board l.seat;
  works : WorksAt l.board l.worker;
}
