use Rattle.std.proofs.Common.{◌≡◌, ◌*◌, length, take}
use Rattle.position_id.specs.Readings.{bits_of_bytes}
use Rattle.position_id.proofs.read.key_bits.Given as goal

abbrev pub invariant-loop-byte : goal.invariant-loop-byte
invariant-loop-byte l = record {
  bits : l.bits.items ≡ bits_of_bytes (take l.byte-index l.key);
  length : length l.bits.items ≡ 8 * l.byte-index;
}
