use Rattle.column_turns.specs.Rows.{AreRows}
use Rattle.column_turns.proofs.column_turns.empty_rows.Given as goal

-- the rows so far
abbrev pub invariant-loop : goal.invariant-loop
invariant-loop l = AreRows l.counter l.rows.items
