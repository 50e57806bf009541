use Rattle.std.proofs.Common.{◌≡◌}
use Rattle.position_rank.specs.Ranks.{rank_of}
use Rattle.interval_words.specs.Seats.{KeepsNotes}
use Rattle.worker_sweep.specs.Blocks.{WorksIn}
use Rattle.worker_sweep.specs.Columns.{AreNotedTo}
use Rattle.column_turns.specs.Columns.{position_in}
use Rattle.worker_sweep.proofs.columns.tighten_position.Given as goal

abbrev pub invariant-loop-kind : goal.invariant-loop-kind
invariant-loop-kind l = record {
  board : l.pairs.board.now ≡ l.initial.pairs.board.now;
  kept : KeepsNotes l.initial.pairs.seat l.pairs.seat;
  noted : AreNotedTo l.initial.pairs.board.now.game l.pairs.seat.view (position_in l.turns l.i) l.kind;
  works : WorksIn l.initial.pairs.board.now.game (rank_of l.turns.other) l.initial.pairs.seat l.pairs.seat;
}
