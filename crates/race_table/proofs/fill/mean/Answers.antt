use Rattle.std.proofs.Common.{◌≡◌, ℤ, ◌∙◌, ap, arith}
use Rattle.std.proofs.lemmas.Int.{ints}
use Rattle.directed_fixed.specs.Bounds.{Bounds}
use Rattle.directed_fixed.specs.Rounding.{floor_36, ceil_36}
use Rattle.turn_rule.proofs.Integers.{floor_36-is, ceil_36-is}
use Rattle.race_table.proofs.fill.mean.Goals as goal

pub unwrap-requires-2 : goal.unwrap-requires-2
unwrap-requires-2 c = c.new-2.ensures.within.1 (record {
  from = omega (arith, ints, c.units-2.ensures.value, c.ceil_div.ensures.above, c.ceil_div.ensures.least, c.requires.high.from);
  to = omega (arith, ints, c.units-2.ensures.value, c.ceil_div.ensures.above, c.ceil_div.ensures.least, c.requires.high.to);
})

pub new-requires-3 : goal.new-requires-3
new-requires-3 c =
    let low = rw c.unwrap.ensures at c.new.ensures.value in
    let high = rw c.unwrap-2.ensures at c.new-2.ensures.value in
    omega (arith, ints, low, high, c.units.ensures.value, c.units-2.ensures.value, c.floor_div.ensures.below, c.ceil_div.ensures.above, c.requires.in_order)

pub returns : goal.returns
returns c =
    let low = rw c.unwrap.ensures at c.new.ensures.value in
    let high = rw c.unwrap-2.ensures at c.new-2.ensures.value in
    let down : c.unwrap.result ≡ floor_36 c.args.lower = floor_36-is c.args.lower c.unwrap.result (omega (arith, ints, low, c.units.ensures.value, c.floor_div.ensures.below)) (omega (arith, ints, low, c.units.ensures.value, c.floor_div.ensures.greatest)) in
    let up : c.unwrap-2.result ≡ ceil_36 c.args.upper = ceil_36-is c.args.upper c.unwrap-2.result (omega (arith, ints, high, c.units-2.ensures.value, c.ceil_div.ensures.above)) (omega (arith, ints, high, c.units-2.ensures.value, c.ceil_div.ensures.least)) in
    let with_lower : ℤ → Bounds = λ z. record { lower = z; upper = c.unwrap-2.result } in
    let with_upper : ℤ → Bounds = λ z. record { lower = floor_36 c.args.lower; upper = z } in
    c.new-3.ensures ∙ (ap with_lower down ∙ ap with_upper up)
