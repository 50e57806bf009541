use Rattle.std.proofs.Common.{◌≡◌, ◌-◌, ◌++◌, false, length, replicate}
use Rattle.position_id.proofs.print.key_bits.Given as goal

abbrev pub invariant-loop : goal.invariant-loop
invariant-loop l = record {
  bits : l.bits.items ≡ l.initial.bits.items ++ replicate (l.counter - length l.initial.bits.items) false;
  length : length l.bits.items ≡ l.counter;
}
