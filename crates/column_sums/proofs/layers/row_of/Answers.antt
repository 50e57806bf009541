use Rattle.std.proofs.Common.{◌≢◌, ◌<◌, ◌∙◌, length, arith, below_more, set, get_or, length-set, get_or-set_same, get_or-set_other, subst, sym}
use Rattle.column_sums.specs.Leaps.{IsNext}
use Rattle.column_sums.proofs.layers.row_of.Goals as goal

pub loop-point-preserved : goal.loop-point-preserved
loop-point-preserved c =
    let others = c.args.others.now in
    let next = c.loop-point.next in
    let found = c.next_of.result in
    let at = c.loop-point.point in
    let here : at < length next = omega (arith, c.loop-point-test.true, c.loop-point.invariant.points) in
    let is : IsNext others c.args.layer at found = c.next_of.ensures in
    record {
      points = length-set next at found ∙ c.loop-point.invariant.points;
      next = λ point below. below_more (λ j. IsNext others c.args.layer j (get_or (set next at found) j 0)) at
          (λ j h. let apart : j ≢ at = omega arith in subst (IsNext others c.args.layer j) (sym (get_or-set_other next at j found 0 apart)) (c.loop-point.invariant.next j h))
          (subst (IsNext others c.args.layer at) (sym (get_or-set_same next at found 0 here)) is) point below;
    }
