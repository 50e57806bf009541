use Rattle.std.proofs.Common.{◌≡◌, ◌+◌, ◌-◌, ◌++◌, length}
use Rattle.position_id.specs.Readings.{low_bits}
use Rattle.position_id.proofs.read.push_bits.Given as goal

abbrev pub invariant-loop : goal.invariant-loop
invariant-loop l = record {
  bits : l.bits.items ++ low_bits (8 - l.counter) l.rest ≡ l.fn.bits.items ++ low_bits 8 l.byte;
  length : length l.bits.items ≡ length l.fn.bits.items + l.counter;
}
