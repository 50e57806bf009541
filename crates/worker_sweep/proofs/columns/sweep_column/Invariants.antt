use Rattle.std.proofs.Common.{◌≡◌, ℕ, ◌<◌}
use Rattle.position_rank.specs.Ranks.{rank_of}
use Rattle.turn_rule.specs.Games.{kinds_of}
use Rattle.interval_words.specs.Seats.{KeepsNotes}
use Rattle.worker_sweep.specs.Blocks.{WorksIn}
use Rattle.worker_sweep.specs.Columns.{MayBringColumn, AreNotedTo}
use Rattle.column_turns.specs.Columns.{position_in}
use Rattle.worker_sweep.proofs.columns.sweep_column.Given as goal

abbrev pub invariant-loop-i : goal.invariant-loop-i
invariant-loop-i l = record {
  board : l.pairs.board.now ≡ l.fn.board;
  kept : KeepsNotes l.fn.seat l.pairs.seat;
  column : MayBringColumn l.fn.board.game l.pairs.seat.view l.turns;
  noted : (i : ℕ) → i < l.i → AreNotedTo l.fn.board.game l.pairs.seat.view (position_in l.turns i) (kinds_of l.fn.board.game);
  works : WorksIn l.fn.board.game (rank_of l.turns.other) l.fn.seat l.pairs.seat;
}
