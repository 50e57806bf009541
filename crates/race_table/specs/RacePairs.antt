-- The pair of a race, in the game without a cube.
use Rattle.std.specs.Prelude.{ℕ, ◌≤◌, pos, ◌+ℤ◌, ◌≤ℤ◌, sum}
use Rattle.position_rank.specs.Placement.{Placement}
use Rattle.directed_fixed.specs.Bounds.{Bounds, AreNoLooserPairs}
use Rattle.cube_actions.specs.Money.{cubeless}
use Rattle.turn_rule.specs.Games.{game_of}
use Rattle.turn_rule.specs.Turn.{rounds}
use Rattle.turn_rule.specs.States.{pair_of}
use Rattle.turn_rule.specs.Exact.{Scoring}
use Rattle.turn_rule.specs.Truth.{IsScoring, EnclosesAt}
use Rattle.race_table.specs.TurnsLeft.{turns_left}

-- the pair of a position after so many rounds
abbrev pub pair_after : ℕ → Placement → Bounds
pair_after r p = pair_of (rounds cubeless r) p 0

-- the pair of a race: after as many rounds as it has turns left
abbrev pub race_pair : Placement → Bounds
race_pair p = pair_after (turns_left p) p

-- What is true of the pair of a race. In each game of at least as many turns as are left, however its unfinished end is scored, it encloses what
-- the race is worth exactly. After no number of rounds the pair is tighter. And it is at most as many units wide as turns are left.
pub record IsTrueOfRace (p : Placement) (pair : Bounds) : Type 0 where
  pub encloses :
      (turns : ℕ) (scoring : Scoring) → turns_left p ≤ turns
      → IsScoring (game_of (sum p.mover) cubeless) scoring
      → EnclosesAt cubeless scoring turns pair p 0
  pub tight : (r : ℕ) → AreNoLooserPairs pair (pair_after r p)
  pub narrow : pair.upper ≤ℤ (pair.lower +ℤ pos (turns_left p))
