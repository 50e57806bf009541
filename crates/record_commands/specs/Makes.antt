-- What making a record leaves.
use Rattle.std.specs.Prelude.{◌≡◌, ◌⊎◌, ℕ, List, [], ◌∷◌, length, count_by, Bool, Option, Ok, Err}
use Rattle.outside_log.specs.Log.{Event}
use Rattle.outside_log.specs.Readings.{WritesFile}
use Rattle.outside_log.specs.Sink.{Output}
use Rattle.game_record.specs.declared.line.Line.TheVariants.{Title}
use Rattle.record_text.specs.Texts.{IsRecordText, is_line_end, lines_text}
use Rattle.game_record.specs.Replay.{IsReplay}
use Rattle.game_record.specs.declared.decision.Decision.{Decision}
use Rattle.game_record.specs.declared.record.Record.{Record}
use Rattle.record_maker.specs.Making.{IsMade}
use Rattle.record_study.specs.Studies.{AreStudied, game_of_record}
use Rattle.command_line.specs.declared.command.Make.{Make}
use Rattle.record_reports.specs.Analyses.{made_text}
use Rattle.run_endings.specs.Beginnings.{MayRefuseBeginning, MayTakePlace}
use Rattle.run_endings.specs.Endings.{Ending, IsPut, WasPut}
use Rattle.run_endings.specs.declared.ending.RunStop.TheVariants.{NotWritten, Refused}
use Rattle.record_commands.specs.declared.make.MadeRecord.{MadeRecord}

-- The record of a task was made: it is that of the number and the count of games, this is its text, it breaks no rule, and its decisions were
-- studied by eight rounds.
pub record IsMadeFor (task : Make) (made : MadeRecord) : Type 0 where
  pub rec : Record
  pub drawn : IsMade task.number task.games rec
  pub text : IsRecordText made.text.items rec
  pub decisions : List Decision
  pub replay : IsReplay rec decisions
  pub studied : AreStudied (game_of_record rec) 8 decisions made.analysis

-- the report on a record that was made: how many lines and bytes its text has, and what each player loses in all
abbrev pub made_report : MadeRecord → List ℕ
made_report made =
    made_text (count_by is_line_end made.text.items) (length made.text.items) made.analysis

-- The record was made: a file with its text was written, and the report on it was put.
pub record HasMade (task : Make) (before after : List Event) (old new : Output) : Type 0 where
  pub made : MadeRecord
  pub is_made : IsMadeFor task made
  pub file : WritesFile task.file made.text.items before after
  pub report : IsPut old new (made_report made)

-- the report on the record that was made was put, or a front of it
pub record HasToldMaking (task : Make) (old new : Output) : Type 0 where
  pub made : MadeRecord
  pub is_made : IsMadeFor task made
  pub report : WasPut old new (made_report made)

-- the first line, with which every record's text begins
abbrev pub title_line : List ℕ
title_line = lines_text (Title ∷ [])

-- How making a record ends: it was made; or writing failed, and nothing was put or no more than the report; or it was refused, for what stands
-- where the file is to be written or for want of memory, and nothing was put.
abbrev pub Makes : Make → Bool → Option (List ℕ) → List Event → List Event → Output → Output
    → Ending → Type 0
Makes task told held before after old new (Ok done) =
    HasMade task before after old new × MayTakePlace title_line told held
Makes task told held before after old new (Err NotWritten) =
    (new ≡ old) ⊎ HasToldMaking task old new
Makes task told held before after old new (Err (Refused refusal)) =
    MayRefuseBeginning title_line task.file told held refusal × (new ≡ old)
