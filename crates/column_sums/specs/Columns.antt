-- A column: all positions with the same checkers of the other side, and what moves need to know of these.
use Rattle.std.specs.Prelude.{◌≡◌, ◌≤◌, ◌⊎◌, ℕ, ℤ, ◌-◌, nat_lt, nat_le, Bool, true, ◌==◌, ◌&&◌, ◌||◌, List, [], ◌∷◌, Option, Some, None, slice_index, if◌then◌else◌}
use Rattle.position_rank.specs.Placement.{Placement, moved, above, hit}
use Rattle.column_sums.specs.Cascade.{or_max, then_value}

-- a move that the mover's checkers allow on a board without the other side: what it leaves of them, and the other side's point that it comes to,
-- if it isn't off the board
pub record Step : Type 0 where
  pub mover : List ℕ
  pub lands : Option ℕ

abbrev pub may_leave_alone : List ℕ → ℕ → Bool
may_leave_alone mover from =
    nat_lt 0 (slice_index mover from) && (from == 25 || slice_index mover 25 == 0)

abbrev pub may_bear_off : List ℕ → ℕ → ℕ → Bool
may_bear_off mover die from =
    nat_le from die && above mover 6 == 0 && (from == die || above mover from == 0)

-- the move of the checker on this place by this die, if the mover's own checkers allow it
unfoldable pub step_from : List ℕ → ℕ → ℕ → Option Step
step_from mover die from =
    if may_leave_alone mover from && nat_lt die from
    then Some (record
    { mover = moved mover from (from - die); lands = Some (25 - (from - die)) })
    else if may_leave_alone mover from && may_bear_off mover die from
    then Some (record { mover = moved mover from 0; lands = None })
    else None

-- the other side doesn't hold this point with two checkers or more
abbrev pub is_open : List ℕ → Option ℕ → Bool
is_open other None = true
is_open other (Some point) = nat_le (slice_index other point) 1

-- the other side's checkers afterwards
abbrev pub struck : List ℕ → Option ℕ → List ℕ
struck other None = other
struck other (Some point) = hit other point

-- what a step leaves where the other side has these checkers, unless its point is closed
abbrev pub landed : List ℕ → Step → Option Placement
landed other step = if is_open other step.lands
    then Some (record { mover = step.mover; other = struck other step.lands })
    else None

abbrev pub landed_if : List ℕ → Option Step → Option Placement
landed_if other None = None
landed_if other (Some step) = landed other step

-- a step in front of others
abbrev pub with_step : Option Step → List Step → List Step
with_step None steps = steps
with_step (Some step) steps = step ∷ steps

-- the steps from these places by this die
abbrev pub steps_from : List ℕ → ℕ → List ℕ → List Step
steps_from mover die [] = []
steps_from mover die (from ∷ rest) =
    with_step (step_from mover die from) (steps_from mover die rest)

-- the greatest value of what these steps leave
abbrev pub over_steps : (Placement → Option ℤ) → List ℕ → List Step → Option ℤ
over_steps later other [] = None
over_steps later other (step ∷ rest) =
    or_max (then_value later (landed other step)) (over_steps later other rest)

-- the other side's checkers after a move of the mover: as before, or a single checker went to the bar
abbrev pub AreStruck : List ℕ → List ℕ → Type 0
AreStruck other after = (after ≡ other)
    ⊎ ((point : ℕ) × (1 ≤ point) × (point ≤ 24) × (slice_index other point ≡ 1)
    × (after ≡ moved other point 25))
