use Rattle.std.proofs.Common.{◌≡◌, ◌*◌, ◌≤◌, length, take}
use Rattle.std.specs.List.{flat_map}
use Rattle.command_line.specs.Plain.{plain_signs}
use Rattle.command_line.proofs.plain.spread_signs.Given as goal

abbrev pub invariant-loop-byte : goal.invariant-loop-byte
invariant-loop-byte l = record {
  bytes : l.signs.bytes ≡ flat_map plain_signs (take l.byte-index l.text);
  length : length l.signs.bytes ≤ 3 * l.byte-index;
}
