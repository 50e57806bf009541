use Rattle.std.proofs.Common.{◌^◌, ◌∙◌, get_or, ltb, ap, arith}
use Rattle.std.specs.Int.{bit_at}
use Rattle.std.proofs.lemmas.Nat.Bits.{bit_at-pow_same, bit_at-pow_other}
use Rattle.position_rank.proofs.PointLaws.{marked-none, marked-more, end-bit}
use Rattle.position_rank.proofs.points.OtherPoints.of.Goals as goal

pub loop-point-init : goal.loop-point-init
loop-point-init c =
    let marked = c.marked-bits.ensures in
    record {
      marked = marked-none c.marked-bits.result _ marked.within (λ p low high. marked.same p (omega arith) ∙ bit_at-pow_other 25 p (omega arith));
      lowest = end-bit c.is_in_play.result _ (bit_at (2 ^ 25) 0) (bit_at c.marked-bits.result 0) (bit_at-pow_other 25 0 (omega arith)) marked.at c.is_in_play.ensures;
      highest = marked.same 25 (omega arith) ∙ bit_at-pow_same 25;
    }

pub loop-point-preserved : goal.loop-point-preserved
loop-point-preserved c =
    let before = c.loop-point.invariant in
    let marked = c.marked-bits-in-loop-point.ensures in
    let point = c.loop-point.point in
    record {
      marked = marked-more c.loop-point.bits c.marked-bits-in-loop-point.result (λ place. get_or c.args.layout.now place 0) point _ (omega arith) (omega arith) (ap (ltb 0) c.count.ensures.count) before.marked marked.within marked.at marked.same;
      lowest = rw (marked.same 0 (omega arith)) before.lowest;
      highest = marked.same 25 (omega arith) ∙ before.highest;
    }
