-- What is true of a pair that is reported.
use Rattle.std.specs.Prelude.{◌≡◌, ◌⊎◌, ℕ, ◌≤◌, List, sum}
use Rattle.outside_log.specs.Sink.{Output}
use Rattle.directed_fixed.specs.Bounds.{Bounds}
use Rattle.cube_actions.specs.Money.{cubeless}
use Rattle.turn_rule.specs.Games.{game_of}
use Rattle.turn_rule.specs.Exact.{Scoring}
use Rattle.turn_rule.specs.States.{pair_of}
use Rattle.turn_rule.specs.Turn.{rounds}
use Rattle.turn_rule.specs.Truth.{IsScoring, EnclosesAt}
use Rattle.equity_report.specs.declared.refusal.Refusal.{Refusal}
use Rattle.equity_report.specs.declared.refusal.Refusal.TheVariants.{Memory}
use Rattle.solve_reports.specs.Bounds.{bound_text}
use Rattle.run_endings.specs.Endings.{Ending, Tells}
use Rattle.command_line.specs.declared.command.Bound.{Bound as BoundTask}
use Rattle.solve_commands.specs.Checkers.{IsOfOtherCheckers}

-- the position's pair after so many rounds of a game without a cube, and the report of it
abbrev pub asked_pair : BoundTask → Bounds
asked_pair task = pair_of (rounds cubeless task.rounds) task.position 0

abbrev pub bound_report : BoundTask → List ℕ
bound_report task = bound_text task.board task.position task.rounds (asked_pair task)

-- What is true of a pair. It encloses what the position is worth exactly: in every game without a cube that is played for at least as many
-- turns as there were rounds, however its unfinished end is scored.
pub record IsTrueOfBound (task : BoundTask) (pair : Bounds) : Type 0 where
  pub encloses :
      (turns : ℕ) (scoring : Scoring) → task.rounds ≤ turns
      → IsScoring (game_of task.checkers cubeless) scoring
      → EnclosesAt cubeless scoring turns pair task.position 0

-- The position has as many checkers as are asked for, and its pair was told so, of which this is true.
pub record HasBound (task : BoundTask) (IsTold : List ℕ → Type 0) : Type 0 where
  pub same : sum task.position.mover ≡ task.checkers
  pub report : IsTold (bound_report task)
  pub truth : IsTrueOfBound task (asked_pair task)

-- the position has another number of checkers, or there was no memory for the game of that number
abbrev pub RefusesBound : BoundTask → Refusal → Type 0
RefusesBound task refusal =
    IsOfOtherCheckers task.checkers task.position refusal
    ⊎ ((sum task.position.mover ≡ task.checkers) × (refusal ≡ Memory))

-- how a position's pair is told
abbrev pub TellsBound : BoundTask → Output → Output → Ending → Type 0
TellsBound task old new ending = Tells (HasBound task) (RefusesBound task) old new ending
