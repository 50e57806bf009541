-- Stakes of a game of a match, and of any game by its name.
use Rattle.std.specs.Prelude.{ℕ, ◌-◌, ◌*◌, ◌==◌, nat_le, nat_lt, min, max, Bool, ◌||◌, List, [], ◌∷◌, map, Option, Some, None, if◌then◌else◌}
use Rattle.std.specs.Option.{option_map}
use Rattle.directed_fixed.specs.Bounds.{Bounds, negated}
use Rattle.cube_actions.specs.declared.kind.Kind.{Kind}
use Rattle.cube_actions.specs.declared.kind.Double.{Double}
use Rattle.cube_actions.specs.declared.kind.Taken.{Taken}
use Rattle.cube_actions.specs.declared.match_kind.MatchKind.{MatchKind}
use Rattle.cube_actions.specs.declared.name.StakesName.{StakesName}
use Rattle.cube_actions.specs.declared.name.StakesName.TheVariants.{Unlimited, Match}
use Rattle.cube_actions.specs.declared.phase.Phase.{Phase}
use Rattle.cube_actions.specs.declared.phase.Phase.TheVariants.{Normal, Crawford, Post}
use Rattle.cube_actions.specs.declared.side.Side.{Side}
use Rattle.cube_actions.specs.declared.side.Side.TheVariants.{Near, Far}
use Rattle.cube_actions.specs.Money.{unlimited}
use Rattle.cube_actions.specs.Stakes.{Terms, exactly, point_units}
use Rattle.cube_actions.specs.Scores.{MatchScore, other_side, needs}
use Rattle.cube_actions.specs.MatchKinds.{match_kinds, number_in, kind_after_play, after_take, kind_may_double}
use Rattle.cube_actions.specs.Starts.{StartPairs, start_pair}

-- the phase of the next game, after which the two sides need so many points: the first game at which a side needs one is the Crawford game
abbrev pub next_phase : Phase → ℕ → ℕ → Phase
next_phase Normal a b = if a == 1 || b == 1 then Crawford else Normal
next_phase Crawford a b = Post
next_phase Post a b = Post

-- the score of the next game, in which the side that needs fewer points is near
abbrev pub next_score : Phase → ℕ → ℕ → MatchScore
next_score phase a b = record { near = min a b; far = max a b; phase = next_phase phase a b }

-- the score of the next game, when a side has won so many points and needs more
abbrev pub after_win : MatchScore → Side → ℕ → MatchScore
after_win score winner won =
    next_score score.phase (needs score winner - won) (needs score (other_side winner))

-- Whether a side that won is near in the next game. Where both need the same, the side that was near stays it.
abbrev pub stays_near : Side → ℕ → ℕ → Bool
stays_near Near own others = nat_le own others
stays_near Far own others = nat_lt own others

-- the value of the next game for a side that won, by what the two sides then need: the start pair is what the near side has
abbrev pub next_value : StartPairs → Phase → Side → ℕ → ℕ → Bounds
next_value starts phase winner own others =
    if stays_near winner own others then start_pair starts (next_score phase own others)
    else negated (start_pair starts (next_score phase own others))

-- the value for a side of winning so many points: the whole match where it needs no more, else that of the next game
abbrev pub value_of_win : StartPairs → MatchScore → Side → ℕ → Bounds
value_of_win starts score winner won =
    if nat_le (needs score winner) won then exactly 1
    else next_value starts score.phase winner (needs score winner - won)
    (needs score (other_side winner))

-- A pass wins the cube's value before the double. After a take the cube shows twice as much, in which wins are counted already.
abbrev pub right_to_double : StartPairs → MatchScore → MatchKind → Option Double
right_to_double starts score kind =
    if kind_may_double score kind
    then Some (record {
      pass = value_of_win starts score kind.mover kind.cube;
      answers =
          record { items = record { kind = number_in score (after_take kind); factor = 1 } ∷ [] };
    })
    else None

-- a single game wins as many points as the cube shows, a gammon twice and a backgammon three times as many
abbrev pub match_kind : StartPairs → MatchScore → MatchKind → Kind
match_kind starts score kind = record {
  next = number_in score (kind_after_play kind);
  win = map (λ times. value_of_win starts score kind.mover (times * kind.cube)) (1 ∷ 2 ∷ 3 ∷ []);
  double = right_to_double starts score kind;
}

-- the stakes of a game at a score, given what the scores after it are worth
abbrev pub terms_of : MatchScore → StartPairs → Terms
terms_of score starts = record {
  kinds = map (match_kind starts score) (match_kinds score);
  bound = point_units 1;
  name = Match score;
}

-- what a game of this name is played for, in a match given what the scores after it are worth
abbrev pub stakes_named : StakesName → StartPairs → Terms
stakes_named (Unlimited rule) starts = unlimited rule
stakes_named (Match score) starts = terms_of score starts

-- the answers to a kind's double, if it has one
abbrev pub answers_in : Kind → Option (List Taken)
answers_in kind = option_map (λ (double : Double). double.answers.items) kind.double
