-- The scores of a match, in the order in which they are solved: a game's scores after a win come before its own.
use Rattle.std.specs.Prelude.{◌≡◌, ◌≤◌, ◌<◌, ◌⊎◌, ℕ, ◌+◌, ◌-◌, ◌==◌, nat_le, max, Bool, ◌&&◌, List, [], ◌∷◌, map, filter}
use Rattle.std.specs.List.{flat_map, range_with_len}
use Rattle.cube_actions.specs.declared.phase.Phase.{Phase}
use Rattle.cube_actions.specs.declared.phase.Phase.TheVariants.{Normal, Crawford, Post}
use Rattle.cube_actions.specs.Scores.{MatchScore, IsScore}

-- Before the Crawford game both sides need two points or more. In it the one side needs one and the other more. After it the other side
-- has won a point, unless the match is of one point.
abbrev pub can_be : ℕ → ℕ → ℕ → Phase → Bool
can_be length near far Normal = nat_le 2 near
can_be length near far Crawford = near == 1 && nat_le 2 far
can_be length near far Post = near == 1 && nat_le far (max 1 (length - 1))

-- the score can come in a match of this length
abbrev pub is_of_match : ℕ → MatchScore → Bool
is_of_match length score = nat_le score.near score.far && nat_le score.far length
    && can_be length score.near score.far score.phase

-- both sides' needs by rising sum and then by rising need of the near side, with each phase, Post before Crawford
unfoldable pub in_order : List MatchScore
in_order =
    flat_map (λ both. flat_map
    (λ near. map (λ phase. record { near = near; far = both - near; phase = phase })
    (Post ∷ Crawford ∷ Normal ∷ [])) (range_with_len 1 5)) (range_with_len 2 9)

-- the scores of a match of this length, 1 to 5, in this order
unfoldable pub ladder : ℕ → List MatchScore
ladder length = filter (is_of_match length) in_order

-- The rule in which scores belong to a match: both needs are within its length, and after the Crawford game the far side has won a point,
-- unless the match is of one point.
pub record IsOfMatch (match_length : ℕ) (score : MatchScore) : Type 0 where
  pub valid : IsScore score
  pub within : score.far ≤ match_length
  pub won : score.phase ≡ Post → score.far ≤ max 1 (match_length - 1)

-- A score comes before another where both sides together need fewer points, or as many and the near side fewer, or where the needs are the
-- same and it is after the Crawford game, which the other is.
abbrev pub ScoreComesBefore : MatchScore → MatchScore → Type 0
ScoreComesBefore a b =
    (a.near + a.far < b.near + b.far)
    ⊎ ((a.near + a.far ≡ b.near + b.far) × (a.near < b.near))
    ⊎ ((a.near ≡ b.near) × (a.far ≡ b.far) × (a.phase ≡ Post) × (b.phase ≡ Crawford))
