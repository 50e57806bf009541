-- Where the cube can be at a score of a match, and who moves.
use Rattle.std.specs.Prelude.{ℕ, ◌*◌, ◌==◌, nat_lt, Bool, true, false, not, ◌&&◌, List, [], ◌∷◌, filter, Option, Some, None, if◌then◌else◌}
use Rattle.std.specs.List.{flat_map, position_or_len}
use Rattle.cube_actions.specs.declared.match_kind.MatchKind.{MatchKind}
use Rattle.cube_actions.specs.declared.side.Side.{Side}
use Rattle.cube_actions.specs.declared.side.Side.TheVariants.{Near, Far}
use Rattle.cube_actions.specs.Scores.{MatchScore, is_crawford, other_side, needs}

-- A side owns the cube at 2 where the other side could turn it from 1: it needed more points than that. It owns the cube at 4 or 8 where
-- the other side owned it at half of that, and needed more points than it then showed.
abbrev pub can_own_2 : MatchScore → Side → Bool
can_own_2 score owner = nat_lt 1 (needs score (other_side owner))

abbrev pub can_own_4 : MatchScore → Side → Bool
can_own_4 score owner =
    nat_lt 2 (needs score (other_side owner)) && can_own_2 score (other_side owner)

abbrev pub can_own_8 : MatchScore → Side → Bool
can_own_8 score owner =
    nat_lt 4 (needs score (other_side owner)) && can_own_4 score (other_side owner)

abbrev pub can_own : MatchScore → ℕ → Side → Bool
can_own score cube owner = if cube == 2
    then can_own_2 score owner
    else if cube == 4 then can_own_4 score owner else can_own_8 score owner

-- the cube can always be centred, and can be owned in all games but the Crawford game
abbrev pub can_stand : MatchScore → ℕ → Option Side → Bool
can_stand score cube None = true
can_stand score cube (Some owner) = not (is_crawford score.phase) && can_own score cube owner

abbrev pub can_come : MatchScore → MatchKind → Bool
can_come score kind = can_stand score kind.cube kind.owner

-- the near side to move, and then the far side
abbrev pub both_to_move : ℕ × Option Side → List MatchKind
both_to_move place =
    record { mover = Near; cube = place.0; owner = place.1 }
    ∷ record { mover = Far; cube = place.0; owner = place.1 } ∷ []

-- the places of the cube, by its rising value, and owned by the near side before the far side
abbrev pub cube_places : List (ℕ × Option Side)
cube_places = (1, None) ∷ (2, Some Near) ∷ (2, Some Far) ∷ (4, Some Near) ∷ (4, Some Far)
    ∷ (8, Some Near) ∷ (8, Some Far) ∷ []

abbrev pub every_kind : List MatchKind
every_kind = flat_map both_to_move cube_places

-- the kinds of state at a score, in order
unfoldable pub match_kinds : MatchScore → List MatchKind
match_kinds score = filter (can_come score) every_kind

abbrev pub same_side : Side → Side → Bool
same_side Near Near = true
same_side Far Far = true
same_side _ _ = false

abbrev pub same_owner : Option Side → Option Side → Bool
same_owner None None = true
same_owner (Some a) (Some b) = same_side a b
same_owner _ _ = false

abbrev pub same_kind : MatchKind → MatchKind → Bool
same_kind a b = same_side a.mover b.mover && a.cube == b.cube && same_owner a.owner b.owner

-- the number of a kind, by its place in the order
abbrev pub number_in : MatchScore → MatchKind → ℕ
number_in score kind = position_or_len (same_kind kind) (match_kinds score)

-- the kind after the mover's play, in which the other side moves
abbrev pub kind_after_play : MatchKind → MatchKind
kind_after_play kind = record kind { mover = other_side kind.mover }

-- the kind after the mover has doubled and the other side has taken: the cube is the other side's, and the mover still has to move
abbrev pub after_take : MatchKind → MatchKind
after_take kind = record {
  mover = kind.mover;
  cube = 2 * kind.cube;
  owner = Some (other_side kind.mover);
}

-- the cube is centred or this side's
abbrev pub may_turn : Side → Option Side → Bool
may_turn side None = true
may_turn side (Some owner) = same_side side owner

-- The mover may double in all games but the Crawford game, where he may turn the cube and needs more points than it shows.
abbrev pub kind_may_double : MatchScore → MatchKind → Bool
kind_may_double score kind = not (is_crawford score.phase) && may_turn kind.mover kind.owner
    && nat_lt kind.cube (needs score kind.mover)
