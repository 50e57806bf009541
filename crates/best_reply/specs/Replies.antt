-- What a game is worth exactly in which one side, the follower, plays by a policy, and the other, the replier, plays at its best. Both use the
-- cube at their best.
use Rattle.std.specs.Prelude.{ℕ, zero, suc, ◌^◌, ℤ, pos, ◌+ℤ◌, ◌*ℤ◌, ◌≤ℤ◌, List, [], ◌∷◌, Option, Some, None, map}
use Rattle.std.specs.Int.{int_max}
use Rattle.position_rank.specs.Placement.{Placement}
use Rattle.roll_table.specs.Rolls.{Dice, all_rolls}
use Rattle.cube_actions.specs.declared.kind.Double.{Double}
use Rattle.cube_actions.specs.declared.kind.Taken.{Taken}
use Rattle.cube_actions.specs.Stakes.{Terms, kind_at}
use Rattle.turn_rule.specs.declared.game.Game.{Game}
use Rattle.turn_rule.specs.Turn.{least}
use Rattle.turn_rule.specs.Exact.{Scoring, Values, left_with, before_turn}
use Rattle.turn_rule.specs.Truth.{IsScoring}
use Rattle.best_reply.specs.Policies.{Policy}

-- over some rolls, the sum of what the plays made with them are worth, each roll as often as it comes
abbrev pub sum_by : List (Dice × ℕ) → (Placement → ℤ) → (Dice → Placement) → ℤ
sum_by [] value play = pos 0
sum_by (roll ∷ rolls) value play = pos roll.1 *ℤ value (play roll.0) +ℤ sum_by rolls value play

-- rolling in a kind: the policy's plays of all 36 ways of two dice together, where so many turns follow
abbrev pub rolled_by : Policy → Terms → Scoring → ℕ → Values → Placement → ℕ → ℤ
rolled_by policy stakes scoring turns later p k =
    sum_by all_rolls (left_with stakes scoring turns later k) (policy p k)

-- after a double the replier chooses what leaves the follower least: to pass, or one of its answers
abbrev pub after_double_by : Policy → Terms → Scoring → ℕ → Values → Placement → ℕ → Double → ℤ
after_double_by policy stakes scoring turns later p k double =
    least (pos (36 ^ suc turns) *ℤ scoring.pass k)
    (map (λ (taken : Taken). pos taken.factor *ℤ rolled_by policy stakes scoring turns later p
    taken.kind)
    double.answers.items)

-- with a right to double the follower has the better of rolling at once and of doubling
abbrev pub better_of_by : Policy → Terms → Scoring → ℕ → Values → Placement → ℕ → ℤ → Option Double
    → ℤ
better_of_by policy stakes scoring turns later p k plain None = plain
better_of_by policy stakes scoring turns later p k plain (Some double) =
    int_max plain (after_double_by policy stakes scoring turns later p k double)

-- before a turn of the follower, from what each position is worth after it
abbrev pub before_turn_by : Policy → Terms → Scoring → ℕ → Values → Values
before_turn_by policy stakes scoring turns later p k =
    better_of_by policy stakes scoring turns later p k
    (rolled_by policy stakes scoring turns later p k) (kind_at stakes k).double

-- who is to move
pub data Mover : Type 0 where
  Follower : Mover
  Replier : Mover

-- what each position is worth to who is to move
abbrev pub Worths : Type 0
Worths = Mover → Values

-- the same to both
abbrev pub same_worths : Values → Worths
same_worths values mover = values

-- in a game of so many turns, over the scale times 36 for each turn; an unfinished end has a worth of its own for either to move
unfoldable pub worths : Policy → Terms → Scoring → Worths → ℕ → Worths
worths policy stakes scoring ends zero mover = ends mover
worths policy stakes scoring ends (suc turns) Follower =
    before_turn_by policy stakes scoring turns (worths policy stakes scoring ends turns Replier)
worths policy stakes scoring ends (suc turns) Replier =
    before_turn stakes scoring turns (worths policy stakes scoring ends turns Follower)

-- whoever is to move, it is a scoring of the game with what an unfinished end is worth to him
abbrev pub AreScored : Game → Scoring → Worths → Type 0
AreScored game scoring ends =
    (mover : Mover) → IsScoring game (record scoring { unfinished = ends mover })

-- following gives no more than best play on both sides, and replying no less
pub record IsBetween (worths : Worths) (values : Values) (p : Placement) (k : ℕ) : Type 0 where
  pub follow : worths Follower p k ≤ℤ values p k
  pub reply : values p k ≤ℤ worths Replier p k
