use Rattle.turn_rule.specs.Turn.{turn}
use Rattle.best_reply.specs.Columns.{AreColumnsFilled}
use Rattle.column_turns.specs.Columns.{IsRoomOf}
use Rattle.best_reply.specs.Tables.{words_by}
use Rattle.best_reply.proofs.columns.sweep_columns.Given as goal

-- the columns so far
abbrev pub invariant-loop-other : goal.invariant-loop-other
invariant-loop-other l = record {
  room : IsRoomOf l.words.game l.turns;
  filled : AreColumnsFilled l.words.game (turn l.words.game.stakes (words_by l.old)) l.other l.new;
}
