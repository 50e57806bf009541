use Rattle.base_verify.specs.Columns.{AreHeld}
use Rattle.column_turns.specs.Columns.{IsRoomOf}
use Rattle.base_verify.proofs.taking.mark_columns.Given as goal

abbrev pub invariant-loop : goal.invariant-loop
invariant-loop g l = record {
  room : IsRoomOf l.words.game l.turns;
  held : AreHeld l.words l.marks;
}
