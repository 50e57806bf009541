use Rattle.std.proofs.Common.{rules}
use Rattle.column_sums.proofs.Marks.{none-needed}
use Rattle.column_sums.proofs.Reached.{empty-lists, empty-two}
use Rattle.column_sums.proofs.moves.Moves.new.Goals as goal

pub returns-clause-layouts : goal.returns-clause-layouts
returns-clause-layouts c = c.in_ok-new.ensures

pub returns-clause-ready : goal.returns-clause-ready
returns-clause-ready c = record {
  few = search rules;
  eight = search rules;
  rooms = c.in_ok-six_lists.ensures.rooms;
  within = search rules;
  begun = search rules;
  each = rw c.in_ok-new-3.ensures (empty-lists c.in_ok-new.field-0 c.in_ok-new-2.field-0 c.in_ok-six_lists.field-0 c.in_ok-six_lists.ensures.rooms.six c.in_ok-six_lists.ensures.empty);
  needed = rw (c.in_ok-no_marks.ensures, c.in_ok-new-3.ensures) (none-needed c.in_ok-six_lists.field-0 c.in_ok-six_lists.ensures.rooms.six c.in_ok-six_lists.ensures.empty);
  two_cells = λ _. empty-two c.in_ok-six_lists.field-0 c.in_ok-six_lists.ensures.rooms.six c.in_ok-six_lists.ensures.empty;
}
