use Rattle.std.proofs.Common.{◌≡◌, All, take}
use Rattle.move_rules.specs.Order.{ends_of}
use Rattle.best_reply.specs.Tables.{IsRight, ends_in}
use Rattle.best_reply.proofs.roll_lefts.put_lefts.Given as goal

abbrev pub invariant-loop-entry : goal.invariant-loop-entry
invariant-loop-entry l = record {
  ends : ends_in l.lefts.items ≡ ends_of (take l.entry-index l.list);
  right : All IsRight l.lefts.items;
}
