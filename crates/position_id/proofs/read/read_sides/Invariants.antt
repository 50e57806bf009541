use Rattle.std.proofs.Common.{◌≡◌, ◌+◌, ◌≤◌, ◌++◌, drop, length, nat_lt}
use Rattle.std.specs.List.{list_any}
use Rattle.position_id.specs.Readings.{mover_told, other_told, places_told}
use Rattle.position_id.proofs.read.read_sides.Given as goal

abbrev pub invariant-loop-bit : goal.invariant-loop-bit
invariant-loop-bit l = record {
  places : list_any (λ place. nat_lt 50 place) (places_told l.place (drop l.bit-index l.bits)) ≡ list_any (λ place. nat_lt 50 place) (places_told 1 l.bits);
  mover : l.mover.items ++ mover_told (places_told l.place (drop l.bit-index l.bits)) ≡ mover_told (places_told 1 l.bits);
  other : l.other.items ++ other_told (places_told l.place (drop l.bit-index l.bits)) ≡ other_told (places_told 1 l.bits);
  moved : length l.mover.items ≤ l.bit-index;
  others : length l.other.items ≤ l.bit-index;
  place : l.place ≤ l.bit-index + 1;
}
