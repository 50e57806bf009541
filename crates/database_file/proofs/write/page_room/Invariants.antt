use Rattle.std.proofs.Common.{◌≡◌, length}
use Rattle.database_file.proofs.write.page_room.Given as goal

abbrev pub invariant-loop : goal.invariant-loop
invariant-loop l = length l.room.items ≡ l.counter
