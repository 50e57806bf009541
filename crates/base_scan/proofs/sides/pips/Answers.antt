use Rattle.std.proofs.Common.{◌≤◌, ◌+◌, ◌*◌, slice_index, ap, arith}
use Rattle.std.proofs.lemmas.Nat.{mul-le}
use Rattle.std.proofs.lemmas.List.FromFn.{sum_by-map-range_with_len_more}
use Rattle.base_scan.specs.Meets.{pips_at}
use Rattle.base_scan.proofs.sides.pips.Goals as goal

pub loop-place-preserved : goal.loop-place-preserved
loop-place-preserved c =
    let place = c.loop-place.place in
    let more = sum_by-map-range_with_len_more (λ x. x) (pips_at c.args.layout.now) 0 place place (omega arith) in
    let small : c.from.result * c.from-in-loop-place.result ≤ 25 * 255 = mul-le c.from.result c.from-in-loop-place.result 25 255 (omega arith) (omega arith) in
    record {
      sum = rw (more, c.from.ensures, c.from-in-loop-place.ensures, c.count.ensures.count) (ap (λ n. n + place * slice_index c.args.layout.now place) c.loop-place.invariant.sum);
      small = omega (arith, small);
    }
