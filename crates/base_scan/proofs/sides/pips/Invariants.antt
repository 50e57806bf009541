use Rattle.std.proofs.Common.{◌≡◌, ◌≤◌, ◌*◌, map, sum}
use Rattle.std.specs.List.{range_with_len}
use Rattle.base_scan.specs.Meets.{pips_at}
use Rattle.base_scan.proofs.sides.pips.Given as goal

abbrev pub invariant-loop-place : goal.invariant-loop-place
invariant-loop-place l = record {
  sum : l.pips ≡ sum (map (pips_at l.layout) (range_with_len 0 l.place));
  small : l.pips ≤ 6375 * l.place;
}
