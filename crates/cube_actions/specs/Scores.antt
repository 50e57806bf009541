-- Scores of a match: the points that the two sides still need.
use Rattle.std.specs.Prelude.{◌≡◌, ◌≤◌, ◌==◌, ℕ, Bool, true, false, ◌&&◌}
use Rattle.cube_actions.specs.declared.phase.Phase.{Phase}
use Rattle.cube_actions.specs.declared.phase.Phase.TheVariants.{Normal, Crawford, Post}
use Rattle.cube_actions.specs.declared.side.Side.{Side}
use Rattle.cube_actions.specs.declared.side.Side.TheVariants.{Near, Far}

-- one to five points, the smaller number first
pub record AreNeeds (near far : ℕ) : Type 0 where
  pub from : 1 ≤ near
  pub in_order : near ≤ far
  pub to : far ≤ 5

-- Both sides need at least two points before the Crawford game. In it the one side needs one and the other more; from then on the one
-- side needs one.
pub record IsPhaseOf (near far : ℕ) (phase : Phase) : Type 0 where
  pub normal : phase ≡ Normal → 2 ≤ near
  pub crawford : phase ≡ Crawford → (near ≡ 1) × (2 ≤ far)
  pub post : phase ≡ Post → near ≡ 1

-- the points that the two sides still need, and the phase of the match
pub record MatchScore : Type 0 where
  pub near : ℕ
  pub far : ℕ
  pub phase : Phase

-- the numbers are those of a score, and the phase is one of theirs
pub record IsScore (score : MatchScore) : Type 0 where
  pub needs : AreNeeds score.near score.far
  pub fits : IsPhaseOf score.near score.far score.phase

-- both sides need a point
abbrev pub last_game : MatchScore
last_game = record { near = 1; far = 1; phase = Post }

abbrev pub is_crawford : Phase → Bool
is_crawford Crawford = true
is_crawford _ = false

abbrev pub same_phase : Phase → Phase → Bool
same_phase Normal Normal = true
same_phase Crawford Crawford = true
same_phase Post Post = true
same_phase _ _ = false

abbrev pub same_score : MatchScore → MatchScore → Bool
same_score a b = a.near == b.near && a.far == b.far && same_phase a.phase b.phase

abbrev pub other_side : Side → Side
other_side Near = Far
other_side Far = Near

-- how many points a side still needs
abbrev pub needs : MatchScore → Side → ℕ
needs score Near = score.near
needs score Far = score.far
