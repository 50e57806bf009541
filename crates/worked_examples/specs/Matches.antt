-- Games of matches, reckoned by hand.
use Rattle.std.specs.Prelude.{ℕ, List, [], ◌∷◌, Option, Some, None}
use Rattle.directed_fixed.specs.Bounds.{Bounds, negated}
use Rattle.cube_actions.specs.declared.kind.Kind.{Kind}
use Rattle.cube_actions.specs.declared.kind.Double.{Double}
use Rattle.cube_actions.specs.declared.phase.Phase.{Phase}
use Rattle.cube_actions.specs.declared.phase.Phase.TheVariants.{Normal, Post}
use Rattle.cube_actions.specs.Stakes.{exactly}
use Rattle.cube_actions.specs.Scores.{MatchScore}

-- a score at which near and far need so many points
abbrev pub needing : ℕ → ℕ → Phase → MatchScore
needing near far phase = record { near = near; far = far; phase = phase }

abbrev pub won : Bounds
won = exactly 1

-- the next kind, what a single game, a gammon and a backgammon win, and the right to double
abbrev pub kind : ℕ → Bounds → Bounds → Bounds → Option Double → Kind
kind next single gammon backgammon double = record {
  next = next;
  win = single ∷ gammon ∷ backgammon ∷ [];
  double = double;
}

-- a double with this pass, and this kind after a take
abbrev pub double : Bounds → ℕ → Option Double
double pass take = Some
    (record { pass = pass; answers = record { items = record { kind = take; factor = 1 } ∷ [] } })

-- near needs one point and far two, after the Crawford game
abbrev pub one_and_two : MatchScore
one_and_two = needing 1 2 Post

-- Its kinds, where the start pair of 1-1 is given: if far wins a point, both need one, and near stays near. Far may double.
-- The cube centred, near and far to move; the cube near's at 2.
abbrev pub one_and_two_kinds : Bounds → List Kind
one_and_two_kinds one_each =
    kind 1 won won won None
    ∷ kind 0 (negated one_each) won won (double (negated one_each) 3)
    ∷ kind 3 won won won None
    ∷ kind 2 won won won None
    ∷ []

-- near needs two points and far three, before the Crawford game
abbrev pub two_and_three : MatchScore
two_and_three = needing 2 3 Normal

-- Its kinds, where the start pairs of 1-2 Crawford, 1-3 Crawford and 2-2 are given. If near wins a point, the next game is 1-3 Crawford,
-- with near near. If far wins one, it is 2-2, where near stays near; if far wins two, it is 1-2 Crawford, with far near.
-- The cube centred; near's at 2, far's at 2, near's at 4; each with near and far to move.
abbrev pub two_and_three_kinds : Bounds → Bounds → Bounds → List Kind
two_and_three_kinds crawford_2 crawford_3 two_each =
    kind 1 crawford_3 won won (double crawford_3 4)
    ∷ kind 0 (negated two_each) crawford_2 won (double (negated two_each) 3)
    ∷ kind 3 won won won None
    ∷ kind 2 crawford_2 won won None
    ∷ kind 5 won won won None
    ∷ kind 4 crawford_2 won won (double crawford_2 7)
    ∷ kind 7 won won won None
    ∷ kind 6 won won won None
    ∷ []
