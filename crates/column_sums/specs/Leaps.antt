-- Steps as numbers: of the layout that is left, and of the point where the checker lands.
use Rattle.std.specs.Prelude.{◌≡◌, ◌≤◌, ◌<◌, ℕ, zero, suc, List, [], ◌∷◌, length, Option, Some, None, slice_index, slice_index_or, nat_lt}
use Rattle.column_sums.specs.Columns.{Step, is_open, struck}
use Rattle.column_sums.specs.declared.leaps.Leap.{Leap}

-- 0 stands for off the board
abbrev pub lands_of : ℕ → Option ℕ
lands_of zero = None
lands_of (suc n) = Some (suc n)

abbrev pub layout_at : List (List ℕ) → ℕ → List ℕ
layout_at layouts i = slice_index_or layouts i []

-- a step, whose layout has a number in this list
pub record IsLeap (layouts : List (List ℕ)) (leap : Leap) (step : Step) : Type 0 where
  pub within : leap.to < length layouts
  pub mover : layout_at layouts leap.to ≡ step.mover
  pub point : leap.lands ≤ 24
  pub lands : lands_of leap.lands ≡ step.lands

-- a leap where there is a step, and none where there is none
abbrev pub IsLeapIf : List (List ℕ) → Option Leap → Option Step → Type 0
IsLeapIf layouts None None = Unit {0}
IsLeapIf layouts None (Some step) = ⊥
IsLeapIf layouts (Some leap) None = ⊥
IsLeapIf layouts (Some leap) (Some step) = IsLeap layouts leap step

-- a point or 0, and a layout: the same of a step
abbrev pub IsStepIf : Option (ℕ × List ℕ) → Option Step → Type 0
IsStepIf None None = Unit {0}
IsStepIf None (Some step) = ⊥
IsStepIf (Some left) None = ⊥
IsStepIf (Some left) (Some step) =
    (left.0 ≤ 24) × (lands_of left.0 ≡ step.lands) × (left.1 ≡ step.mover)

-- these leaps are these steps
abbrev pub AreLeaps : List (List ℕ) → List Leap → List Step → Type 0
AreLeaps layouts [] [] = Unit {0}
AreLeaps layouts [] (step ∷ steps) = ⊥
AreLeaps layouts (leap ∷ leaps) [] = ⊥
AreLeaps layouts (leap ∷ leaps) (step ∷ steps) =
    IsLeap layouts leap step × AreLeaps layouts leaps steps

-- Which of the other side's layouts is left where a checker of the mover comes to a point: the number of a layout of the list, or a
-- greater number where the point is closed.
pub record IsNext (others : List (List ℕ)) (layer point next : ℕ) : Type 0 where
  pub is_open : is_open (layout_at others layer) (lands_of point) ≡ nat_lt next (length others)
  pub struck : next < length others
      → layout_at others next ≡ struck (layout_at others layer) (lands_of point)

abbrev pub AreNext : List (List ℕ) → ℕ → List ℕ → Type 0
AreNext others layer next =
    (point : ℕ) → point ≤ 24 → IsNext others layer point (slice_index next point)

-- the same of the points before this one
abbrev pub AreNextTo : List (List ℕ) → ℕ → List ℕ → ℕ → Type 0
AreNextTo others layer next points =
    (point : ℕ) → point < points → IsNext others layer point (slice_index next point)
