use Rattle.plain_table.proofs.ColumnLemmas.{IsFilled}
use Rattle.plain_table.proofs.sweep.sweep_column.Given as goal

abbrev pub invariant-loop-i : goal.invariant-loop-i
invariant-loop-i l = IsFilled l.stakes l.old l.fn.new l.turns l.i l.new
