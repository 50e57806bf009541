-- Values are whole numbers of units, 2 ^ 32 units to a point. A pair has a lower and an upper bound of a value.
use Rattle.std.specs.Prelude.{ℤ, pos, neg_ℤ, ◌≤ℤ◌}
use Rattle.directed_fixed.specs.declared.bounds.End.{End}
use Rattle.directed_fixed.specs.declared.bounds.End.TheVariants.{Lower, Upper}

-- a lower and an upper bound
pub record Bounds : Type 0 where
  pub lower : ℤ
  pub upper : ℤ

-- both bounds 0
abbrev pub at_zero : Bounds
at_zero = record { lower = pos 0; upper = pos 0 }

-- what the pair is for the other side, which loses what the one wins
abbrev pub negated : Bounds → Bounds
negated pair = record { lower = neg_ℤ pair.upper; upper = neg_ℤ pair.lower }

-- the other end of a pair
abbrev pub other : End → End
other Lower = Upper
other Upper = Lower

-- this end of a pair
abbrev pub at : End → Bounds → ℤ
at Lower pair = pair.lower
at Upper pair = pair.upper

-- as this end of a pair, the first value is at least as tight as the second
abbrev pub IsNoLooser : End → ℤ → ℤ → Type 0
IsNoLooser Lower a b = b ≤ℤ a
IsNoLooser Upper a b = a ≤ℤ b

-- at both ends, the first pair is at least as tight as the second
pub record AreNoLooserPairs (a b : Bounds) : Type 0 where
  pub lower : b.lower ≤ℤ a.lower
  pub upper : a.upper ≤ℤ b.upper

-- a value lies within so many units on both sides
pub record IsWithinUnits (bound z : ℤ) : Type 0 where
  pub from : neg_ℤ bound ≤ℤ z
  pub to : z ≤ℤ bound

-- lower at most upper, and both within the bound
pub record IsWithin (bound : ℤ) (pair : Bounds) : Type 0 where
  pub from : neg_ℤ bound ≤ℤ pair.lower
  pub in_order : pair.lower ≤ℤ pair.upper
  pub to : pair.upper ≤ℤ bound
