use Rattle.std.proofs.Common.{◌^◌, ℤ, pos, negsuc, arith}
use Rattle.std.proofs.lemmas.Int.{ints}
use Rattle.std.specs.Int.{int_div_euclid}
use Rattle.directed_fixed.specs.Bounds.{IsWithinUnits}
use Rattle.point_text.proofs.decimal.millionths_below.Goals as goal

whole_within : (z : ℤ) → IsWithinUnits (pos (2 ^ 56)) z → IsWithinUnits (pos (2 ^ 24)) (int_div_euclid z (pos (2 ^ 32)))
whole_within (pos n) h = record { from = omega (arith, ints); to = omega (arith, ints) }
whole_within (negsuc n) h = record { from = omega (arith, ints); to = omega (arith, ints) }

pub returns-clause-within : goal.returns-clause-within
returns-clause-within c =
    let whole = whole_within c.args.units c.requires in
    record { from = grind (arith, ints, whole); to = grind (arith, ints, whole) }
