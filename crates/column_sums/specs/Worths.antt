-- What is found at both ends of a pair: by lower words and by upper ones.
use Rattle.std.specs.Prelude.{ℤ, pos, ◌^◌, List, map, Option}
use Rattle.directed_fixed.specs.declared.bounds.End.{End}
use Rattle.directed_fixed.specs.declared.bounds.End.TheVariants.{Lower, Upper}
use Rattle.directed_fixed.specs.Bounds.{IsWithinUnits}
use Rattle.column_sums.specs.declared.best.Bests.{Bests}
use Rattle.column_sums.specs.declared.best.Worths.{Worths}

-- the worth at this end
abbrev pub worth_at : End → Worths → ℤ
worth_at Lower worths = worths.lower
worth_at Upper worths = worths.upper

-- the worths at this end
abbrev pub worths_at : End → List Worths → List ℤ
worths_at end = map (worth_at end)

-- at both ends at most 2 ^ 36 units on either side of 0
pub record AreSmallWorths (worths : Worths) : Type 0 where
  pub lower : IsWithinUnits (pos (2 ^ 36)) worths.lower
  pub upper : IsWithinUnits (pos (2 ^ 36)) worths.upper

-- the best at this end
abbrev pub best_at : End → Bests → Option ℤ
best_at Lower bests = bests.lower
best_at Upper bests = bests.upper

-- the cells' values at this end
abbrev pub cells_at : End → List Bests → List (Option ℤ)
cells_at end = map (best_at end)
