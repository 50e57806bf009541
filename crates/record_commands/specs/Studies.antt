-- What the decisions of a recorded game lose, by what is solved for it.
use Rattle.std.specs.Prelude.{◌≡◌, ◌⊎◌, ℕ, List, Bool, false, true, IsTrue, Option}
use Rattle.outside_log.specs.Sink.{Output}
use Rattle.game_record.specs.Turns.{has_match}
use Rattle.record_analysis.specs.declared.analysis.Judged.{Judged}
use Rattle.record_study.specs.Matches.{AreStudiedInMatch}
use Rattle.record_study.specs.Studies.{AreStudied, game_of_record}
use Rattle.command_line.specs.declared.command.Study.{Study}
use Rattle.equity_report.specs.declared.refusal.Refusal.{Refusal}
use Rattle.equity_report.specs.declared.refusal.Refusal.TheVariants.{Memory}
use Rattle.run_endings.specs.Pages.{OfHeld}
use Rattle.record_commands.specs.Records.{HoldsRecord, RefusesRecord, match_length, report_shown}
use Rattle.run_endings.specs.Endings.{Ending, Tells}
use Rattle.record_commands.specs.declared.record.Replayed.{Replayed}

-- The decisions of a recorded game were studied by so many rounds: outside a match by the game that it is played for, and in a match by the scores of
-- all its games. So from some number of turns on, one for all of them, each pair encloses what its decision loses exactly, in a match with its exact
-- payoffs, with no premise on a file; and each is at least as tight as over as many rounds in which all states are worked out from the round before.
pub record IsStudiedBy (replayed : Replayed) (most : ℕ) (list : List Judged) : Type 0 where
  pub plain : has_match replayed.rec.stakes ≡ false
      → AreStudied (game_of_record replayed.rec) most replayed.decisions list
  pub in_match :
      has_match replayed.rec.stakes ≡ true
      → AreStudiedInMatch replayed.rec.checkers (match_length replayed.rec.stakes) most
      replayed.decisions list

-- A recorded game was studied: where all answers were faithful, the file holds a record that breaks no rule, and its decisions were studied by the
-- rounds of the task.
pub record IsStudied (task : Study) (told : Bool) (held : Option (List ℕ))
    (list : List Judged) : Type 0 where
  pub replayed : Replayed
  pub record_file : IsTrue told → OfHeld held (λ bytes. HoldsRecord bytes replayed)
  pub studied : IsStudiedBy replayed task.rounds list

-- The report of what was studied was put, in this way.
pub record HasStudied (task : Study) (told : Bool) (held : Option (List ℕ))
    (IsReport : List ℕ → Type 0) : Type 0 where
  pub list : List Judged
  pub studied : IsStudied task told held list
  pub report : IsReport (report_shown task.shown task.board studied.replayed.rec.stakes list)

-- the record breaks no rule, and there was no memory to study it
pub record LacksMemory (refusal : Refusal) (held : Option (List ℕ)) : Type 0 where
  pub replayed : Replayed
  pub record_file : OfHeld held (λ bytes. HoldsRecord bytes replayed)
  pub line : refusal ≡ Memory

-- a study is refused: the record is, or there was no memory to study it
abbrev pub RefusesStudy : Study → Refusal → Option (List ℕ) → Type 0
RefusesStudy task refusal held = RefusesRecord task.rec refusal held ⊎ LacksMemory refusal held

-- this refuses a study, of the file that is held where all answers were faithful
abbrev pub MayRefuseStudy : Study → Bool → Option (List ℕ) → Refusal → Type 0
MayRefuseStudy task told held refusal = IsTrue told → RefusesStudy task refusal held

-- how studying a recorded game ends
abbrev pub TellsStudy : Study → Bool → Option (List ℕ) → Output → Output → Ending → Type 0
TellsStudy task told held = Tells (HasStudied task told held) (MayRefuseStudy task told held)
