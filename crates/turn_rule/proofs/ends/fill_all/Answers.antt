use Rattle.std.proofs.Common.{◌≢◌, ◌<◌, ◌∙◌, length, arith, below_more, set, get_or, get_or-set_same, get_or-set_other}
use Rattle.std.proofs.Math.Seq.{map-set_same}
use Rattle.turn_rule.specs.Rolled.{HasEnds, weighted}
use Rattle.turn_rule.proofs.ends.fill_all.Goals as goal

pub loop-one-preserved : goal.loop-one-preserved
loop-one-preserved c =
    let i = c.loop-one.one-index in
    let kept = c.loop-one.kept in
    let one = c.fill.new.self in
    let here : i < length kept = omega (arith, c.loop-one.auto.kept, c.loop-one-test.true) in
    record {
      rolls = map-set_same weighted kept i one c.one-item.result c.fill.ensures.weighted ∙ c.loop-one.invariant.rolls;
      ends = λ k d below. below_more (λ j. HasEnds c.args.position.now (get_or (set kept i one) j d)) i
          (λ j h. let apart : j ≢ i = omega arith in rw get_or-set_other (c.loop-one.invariant.ends j d h))
          (rw get_or-set_same c.fill.ensures.ends) k below;
    }
