use Rattle.std.proofs.Common.{◌≡◌, ◌<◌, ◌∙◌, ℕ, List, length, ap, arith}
use Rattle.position_rank.specs.Placement.{moved}
use Rattle.column_sums.specs.Leaps.{layout_at}
use Rattle.column_sums.proofs.LayerHits.{hit-more, any-layer}
use Rattle.column_sums.proofs.layers.add_hit.Goals as goal

pub loop-layer-preserved : goal.loop-layer-preserved
loop-layer-preserved c =
    let old = c.args.others.now.items in
    let now = c.loop-layer.others.items in
    let at = c.loop-layer.layer in
    let on = c.loop-layer.invariant.hit in
    let here : at < length old = omega (arith, c.loop-layer-test.true, c.len-layer-end.ensures) in
    let is : c.index.result.now ≡ layout_at old at =
    c.index.ensures ∙ (any-layer now at c.index.result.now (omega (arith, here, on.more.longer)) ∙ on.more.same at here) in
    let pushed = c.push_new.ensures in
    record {
      hit = hit-more c.args.point at old now c.push_new.new.others.items c.moved.result on pushed.more pushed.few pushed.distinct pushed.there pushed.only here
          (c.moved.ensures.moved ∙ ap (λ (a : List ℕ). moved a c.args.point 25) is);
      capacity = pushed.capacity ∙ c.loop-layer.invariant.capacity;
    }
