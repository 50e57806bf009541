use Rattle.plain_table.specs.Columns.{position_at, turn_at}
use Rattle.plain_table.proofs.TableLemmas.{IsPut}
use Rattle.plain_table.proofs.sweep.put_position.Given as goal

abbrev pub invariant-loop-number : goal.invariant-loop-number
invariant-loop-number l = IsPut l.fn.table (position_at l.turns l.i) (turn_at l.turns l.i) l.number l.table
