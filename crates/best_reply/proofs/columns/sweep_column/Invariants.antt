use Rattle.turn_rule.specs.Turn.{turn}
use Rattle.best_reply.specs.Tables.{words_by}
use Rattle.best_reply.proofs.ColumnLemmas.{IsColumnPut}
use Rattle.best_reply.proofs.columns.sweep_column.Given as goal

-- the positions so far
abbrev pub invariant-loop-i : goal.invariant-loop-i
invariant-loop-i l = IsColumnPut l.words.game (turn l.words.game.stakes (words_by l.old)) l.turns l.other l.i l.new
