use Rattle.std.proofs.Common.{◌≡◌, ◌+◌, ◌++◌, true, length, replicate}
use Rattle.position_id.proofs.print.push_place.Given as goal

abbrev pub invariant-loop : goal.invariant-loop
invariant-loop l = record {
  bits : l.bits.items ≡ l.fn.bits.items ++ replicate l.counter true;
  length : length l.bits.items ≡ length l.fn.bits.items + l.counter;
}
