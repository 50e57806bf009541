-- One move of one checker by one die.
use Rattle.std.specs.Prelude.{◌≡◌, ℕ, ◌-◌, ◌<◌, ◌≤◌, ◌⊎◌, slice_index}
use Rattle.position_rank.specs.Placement.{Placement, moved, above, hit}

-- the mover may move a checker from here: he has one here, and this is the bar or none is on the bar
pub record MayLeave (p : Placement) (from : ℕ) : Type 0 where
  pub place : 1 ≤ from
  pub within : from ≤ 25
  pub checker : 0 < slice_index p.mover from
  pub bar_first : (from ≡ 25) ⊎ (slice_index p.mover 25 ≡ 0)

-- to a point of the mover that isn't closed, entering from the bar too
pub record Runs (p : Placement) (die from : ℕ) (q : Placement) : Type 0 where
  pub leaves : MayLeave p from
  pub on_board : die < from
  pub open_point : slice_index p.other (25 - (from - die)) ≤ 1
  pub after : q ≡ record {
    mover = moved p.mover from (from - die);
    other = hit p.other
        (25 - (from - die));
  }

-- off the board, with every checker at home, by the exact number or from the highest place
pub record BearsOff (p : Placement) (die from : ℕ) (q : Placement) : Type 0 where
  pub leaves : MayLeave p from
  pub reaches : from ≤ die
  pub home : above p.mover 6 ≡ 0
  pub highest : (from ≡ die) ⊎ (above p.mover from ≡ 0)
  pub after : q ≡ record { mover = moved p.mover from 0; other = p.other }

-- by this die, the checker on this place makes q of p
abbrev pub IsMove : Placement → ℕ → ℕ → Placement → Type 0
IsMove p die from q = Runs p die from q ⊎ BearsOff p die from q
