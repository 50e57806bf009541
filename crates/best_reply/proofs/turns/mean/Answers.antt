use Rattle.std.proofs.Common.{◌≡◌, ℤ, pos, ◌*ℤ◌, ◌≤ℤ◌, ◌∙◌, ap, arith}
use Rattle.std.proofs.lemmas.Int.{ints}
use Rattle.directed_fixed.specs.Bounds.{Bounds}
use Rattle.directed_fixed.specs.Rounding.{floor_36, ceil_36}
use Rattle.turn_rule.proofs.Integers.{floor_36-is, ceil_36-is, mul_mono}
use Rattle.best_reply.proofs.turns.mean.Goals as goal

pub unwrap-requires : goal.unwrap-requires
unwrap-requires c = c.new.ensures.within.1 (record {
  from = omega (arith, ints, c.floor_div-lower.ensures.below, c.floor_div-lower.ensures.greatest, c.product.ensures.small.from);
  to = omega (arith, ints, c.floor_div-lower.ensures.below, c.floor_div-lower.ensures.greatest, c.product.ensures.small.to);
})

pub unwrap-requires-2 : goal.unwrap-requires-2
unwrap-requires-2 c = c.new-2.ensures.within.1 (record {
  from = omega (arith, ints, c.ceil_div-upper.ensures.above, c.ceil_div-upper.ensures.least, c.product-2.ensures.small.from);
  to = omega (arith, ints, c.ceil_div-upper.ensures.above, c.ceil_div-upper.ensures.least, c.product-2.ensures.small.to);
})

pub new-requires-3 : goal.new-requires-3
new-requires-3 c =
    let low = rw c.unwrap.ensures at c.new.ensures.value in
    let high = rw c.unwrap-2.ensures at c.new-2.ensures.value in
    let order = mul_mono c.args.factor c.args.sum.lower c.args.sum.upper c.lower.ensures.in_order in
    let lower : c.product.result ≡ pos c.args.factor *ℤ c.args.sum.lower = c.product.ensures.product ∙ ap (λ (z : ℤ). pos c.args.factor *ℤ z) c.lower.ensures.lower in
    let upper : c.product-2.result ≡ pos c.args.factor *ℤ c.args.sum.upper = c.product-2.ensures.product ∙ ap (λ (z : ℤ). pos c.args.factor *ℤ z) c.upper.ensures.upper in
    let rise : c.product.result ≤ℤ c.product-2.result = rw (lower, upper) order in
    omega (arith, ints, low, high, rise, c.floor_div-lower.ensures.below, c.ceil_div-upper.ensures.above)

pub returns : goal.returns
returns c =
    let low = rw c.unwrap.ensures at c.new.ensures.value in
    let high = rw c.unwrap-2.ensures at c.new-2.ensures.value in
    let lower : c.product.result ≡ pos c.args.factor *ℤ c.args.sum.lower = c.product.ensures.product ∙ ap (λ (z : ℤ). pos c.args.factor *ℤ z) c.lower.ensures.lower in
    let upper : c.product-2.result ≡ pos c.args.factor *ℤ c.args.sum.upper = c.product-2.ensures.product ∙ ap (λ (z : ℤ). pos c.args.factor *ℤ z) c.upper.ensures.upper in
    let down : c.unwrap.result ≡ floor_36 c.product.result = floor_36-is c.product.result c.unwrap.result (omega (arith, ints, low, c.floor_div-lower.ensures.below)) (omega (arith, ints, low, c.floor_div-lower.ensures.greatest)) in
    let up : c.unwrap-2.result ≡ ceil_36 c.product-2.result = ceil_36-is c.product-2.result c.unwrap-2.result (omega (arith, ints, high, c.ceil_div-upper.ensures.above)) (omega (arith, ints, high, c.ceil_div-upper.ensures.least)) in
    let with_lower : ℤ → Bounds = λ z. record { lower = z; upper = c.unwrap-2.result } in
    let with_upper : ℤ → Bounds = λ z. record { lower = floor_36 (pos c.args.factor *ℤ c.args.sum.lower); upper = z } in
    c.new-3.ensures ∙ (ap with_lower (down ∙ ap floor_36 lower) ∙ ap with_upper (up ∙ ap ceil_36 upper))
