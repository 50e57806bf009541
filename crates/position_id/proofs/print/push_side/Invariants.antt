use Rattle.std.proofs.Common.{◌≡◌, ◌+◌, ◌++◌, drop, length, sum}
use Rattle.std.specs.List.{flat_map}
use Rattle.position_id.specs.Ids.{place_bits, side_bits}
use Rattle.position_id.proofs.print.push_side.Given as goal

abbrev pub invariant-loop-place : goal.invariant-loop-place
invariant-loop-place l = record {
  bits : l.bits.items ++ flat_map place_bits (drop l.place l.side) ≡ l.fn.bits.items ++ side_bits l.side;
  length : length l.bits.items + sum (drop l.place l.side) + 1 ≡ length l.fn.bits.items + sum (drop 1 l.side) + l.place;
}
