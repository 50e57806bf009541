-- Rounding outwards.
use Rattle.std.specs.Prelude.{ℤ, pos, negsuc, neg_ℤ, ◌/◌}
use Rattle.directed_fixed.specs.declared.bounds.End.{End}
use Rattle.directed_fixed.specs.declared.bounds.End.TheVariants.{Lower, Upper}

-- the greatest whole number that isn't above a 36th, and the least that isn't below it
abbrev pub floor_36 : ℤ → ℤ
floor_36 (pos n) = pos (n / 36)
floor_36 (negsuc n) = negsuc (n / 36)

abbrev pub ceil_36 : ℤ → ℤ
ceil_36 z = neg_ℤ (floor_36 (neg_ℤ z))

-- a 36th, rounded to a lower bound or to an upper bound
abbrev pub outwards : End → ℤ → ℤ
outwards Lower = floor_36
outwards Upper = ceil_36
