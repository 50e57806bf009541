use Rattle.std.proofs.Common.{◌≡◌, ◌≢◌, ◌<◌, ◌∙◌, length, ap, arith, below_more, set, get_or, get_or-set_same, get_or-set_other}
use Rattle.std.proofs.Math.Seq.{map-set_same}
use Rattle.best_reply.specs.Tables.{RollAt, weighted_kept}
use Rattle.best_reply.proofs.position_lefts.fill_all.Goals as goal

pub loop-one-preserved : goal.loop-one-preserved
loop-one-preserved c =
    let i = c.loop-one.one-index in
    let kept = c.loop-one.kept in
    let one = c.fill.new.self in
    let here : i < length kept = omega (arith, c.loop-one.auto.kept, c.loop-one-test.true) in
    record {
      rolls = map-set_same weighted_kept kept i one c.one-item.result (ap weighted_kept c.fill.ensures) ∙ c.loop-one.invariant.rolls;
      position = λ k none below. below_more (λ j. (get_or (set kept i one) j none).position ≡ c.args.position.now) i
          (λ j h. let apart : j ≢ i = omega arith in rw get_or-set_other (c.loop-one.invariant.position j none h))
          (rw get_or-set_same (ap (λ (at : RollAt). at.position) c.fill.ensures)) k below;
    }
