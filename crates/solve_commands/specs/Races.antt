-- What is true of a race that is reported.
use Rattle.std.specs.Prelude.{◌≡◌, ◌⊎◌, ℕ, List, sum}
use Rattle.outside_log.specs.Sink.{Output}
use Rattle.race_table.specs.Races.{IsRace, IsRaceOf}
use Rattle.race_table.specs.RacePairs.{IsTrueOfRace, race_pair}
use Rattle.race_table.specs.TurnsLeft.{turns_left}
use Rattle.equity_report.specs.declared.refusal.Refusal.{Refusal}
use Rattle.equity_report.specs.declared.refusal.Refusal.TheVariants.{Contact, Memory}
use Rattle.solve_reports.specs.Races.{race_text}
use Rattle.run_endings.specs.Endings.{Ending, Tells}
use Rattle.command_line.specs.declared.command.Race.{Race as RaceTask}
use Rattle.solve_commands.specs.Checkers.{IsOfOtherCheckers}

-- the report of the race's turns and pair
abbrev pub race_report : RaceTask → List ℕ
race_report task =
    race_text task.board task.position (turns_left task.position) (race_pair task.position)

-- The position is a race of as many checkers as are asked for, and the turns that it may still take and its pair were told so. In every
-- game without a cube of at least as many turns, however its unfinished end is scored, the pair encloses what the race is worth exactly; it
-- is at least as tight as after any number of rounds, and at most as many units wide as there are turns.
pub record HasRace (task : RaceTask) (IsTold : List ℕ → Type 0) : Type 0 where
  pub race : IsRaceOf task.checkers task.position
  pub report : IsTold (race_report task)
  pub truth : IsTrueOfRace task.position (race_pair task.position)

-- the position has as many checkers as are asked for, and isn't a race
pub record IsOfContact (task : RaceTask) (refusal : Refusal) : Type 0 where
  pub same : sum task.position.mover ≡ task.checkers
  pub contact : IsRace task.position → ⊥
  pub told : refusal ≡ Contact

-- the position has another number of checkers, or isn't a race, or there was no memory for the races of that number
abbrev pub RefusesRace : RaceTask → Refusal → Type 0
RefusesRace task refusal =
    IsOfOtherCheckers task.checkers task.position refusal
    ⊎ IsOfContact task refusal
    ⊎ (IsRaceOf task.checkers task.position × (refusal ≡ Memory))

-- how a race is told
abbrev pub TellsRace : RaceTask → Output → Output → Ending → Type 0
TellsRace task old new ending = Tells (HasRace task) (RefusesRace task) old new ending
