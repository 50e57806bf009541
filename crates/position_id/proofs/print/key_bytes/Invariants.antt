use Rattle.std.proofs.Common.{◌≡◌, ◌-◌, ◌*◌, ◌++◌, drop, length}
use Rattle.position_id.specs.Ids.{bytes_of_bits}
use Rattle.position_id.proofs.print.key_bytes.Given as goal

abbrev pub invariant-loop-byte : goal.invariant-loop-byte
invariant-loop-byte l = record {
  bytes : l.key.items ++ bytes_of_bits (10 - l.byte) (drop (8 * l.byte) l.bits.items) ≡ bytes_of_bits 10 l.bits.items;
  length : length l.key.items ≡ l.byte;
}
