-- What is known of a file that holds a recorded game.
use Rattle.std.specs.Prelude.{◌≡◌, ◌⊎◌, ◌≤◌, ◌<◌, ℕ, List, length, map, slice_index, Bool, IsTrue, All, Option, Some, None, Result, Ok, Err, ⊤}
use Rattle.cube_actions.specs.declared.name.StakesName.{StakesName}
use Rattle.record_text.specs.Faults.{IsBad}
use Rattle.game_record.specs.Kinds.{game_stakes}
use Rattle.game_record.specs.Lines.{IsRecord}
use Rattle.record_text.specs.Texts.{IsRecordText}
use Rattle.game_record.specs.Replay.{IsBroken, IsReplay}
use Rattle.game_record.specs.RightDecisions.{IsRightDecision}
use Rattle.game_record.specs.Standings.{first_standing}
use Rattle.game_record.specs.declared.decision.Decision.{Decision}
use Rattle.game_record.specs.declared.fault.BadRecord.{BadRecord}
use Rattle.game_record.specs.declared.fault.RecordFault.TheVariants.{TooLong}
use Rattle.game_record.specs.declared.fault.RecordStop.{RecordStop}
use Rattle.game_record.specs.declared.fault.RecordStop.TheVariants as stops
use Rattle.game_record.specs.declared.record.Record.{Record as RecordRead}
use Rattle.game_record.specs.declared.record.RecordStakes.{RecordStakes}
use Rattle.game_record.specs.declared.record.RecordStakes.TheVariants.{Match}
use Rattle.plain_record.specs.Plain.{line_numbers, line_of, plain_text}
use Rattle.outside_log.specs.declared.reading.WholeStop.{WholeStop}
use Rattle.outside_log.specs.declared.reading.WholeStop.TheVariants as whole
use Rattle.record_analysis.specs.declared.analysis.Judged.{Judged}
use Rattle.command_line.specs.declared.command.Shown.{Shown}
use Rattle.command_line.specs.declared.command.Shown.TheVariants.{Losses, Full, Worst}
use Rattle.record_reports.specs.Analyses.{analysis_text}
use Rattle.record_reports.specs.Full.{full_text, worst_text}
use Rattle.equity_report.specs.declared.text.GameName.{GameName}
use Rattle.equity_report.specs.declared.refusal.Refusal.{Refusal}
use Rattle.equity_report.specs.declared.refusal.Refusal.TheVariants.{Missing, Read, Memory, Record}
use Rattle.run_endings.specs.Pages.{OfHeld}
use Rattle.record_commands.specs.declared.record.Replayed.{Replayed}

-- ---- the game of a record

-- what a record is played for, in a match at the score of its first game
abbrev pub stakes_recorded : RecordStakes → StakesName
stakes_recorded stakes = game_stakes stakes (first_standing stakes)

-- the points that a match is played to; where there is none, a match of one
abbrev pub match_length : RecordStakes → ℕ
match_length (Match points) = points
match_length _ = 1

-- the game that a record is played in, in a match that of its first score
abbrev pub game_recorded : RecordRead → GameName
game_recorded rec = record {
  checkers = rec.checkers;
  stakes = stakes_recorded rec.stakes;
  match_length = match_length rec.stakes;
}

-- ---- records in files

-- this plain text is that of a record that breaks no rule, with these decisions
pub record HoldsPlain (plain : List ℕ) (replayed : Replayed) : Type 0 where
  pub text : IsRecordText plain replayed.rec
  pub replay : IsReplay replayed.rec replayed.decisions

-- the first line that is wrong in a plain text: it is no record's, or else that record breaks a rule
abbrev pub IsWrongPlain : List ℕ → BadRecord → Type 0
IsWrongPlain text bad =
    IsBad text bad ⊎ ((rec : RecordRead) × IsRecordText text rec × IsBroken rec bad)

-- a decision with another line, where for each line these are their numbers
abbrev pub at_line : List ℕ → Decision → Decision
at_line numbers decision = record decision { line = slice_index numbers decision.line }

-- These bytes are read as the text of a record that breaks no rule. These are its decisions, each with the line of the bytes that tells it.
pub record HoldsRecord (bytes : List ℕ) (replayed : Replayed) : Type 0 where
  pub short : length bytes ≤ 1048576
  pub told : List Decision
  pub plain : HoldsPlain (plain_text bytes) (record { rec = replayed.rec; decisions = told })
  pub lines : replayed.decisions ≡ map (at_line (line_numbers bytes)) told

-- so of the first wrong line of what bytes are read as
pub record IsWrongAsRead (bytes : List ℕ) (bad : BadRecord) : Type 0 where
  pub short : length bytes ≤ 1048576
  pub plain : BadRecord
  pub wrong : IsWrongPlain (plain_text bytes) plain
  pub line : bad ≡ record plain { line = line_of bytes plain.line }

-- the first line that is wrong in these bytes, where they aren't too many
abbrev pub IsWrongIn : List ℕ → BadRecord → Type 0
IsWrongIn bytes bad =
    ((1048576 < length bytes) × (bad ≡ record { line = 0; fault = TooLong }))
    ⊎ IsWrongAsRead bytes bad

-- a right record, and no more decisions than one can have, each of which could be made
pub record IsRightReplayed (replayed : Replayed) : Type 0 where
  pub valid : IsRecord replayed.rec
  pub right : All (IsRightDecision replayed.rec) replayed.decisions
  pub few : length replayed.decisions ≤ 131072

-- A recorded game in a file of this name is refused: there is no file, or a line of it is wrong. Memory is asked for only where the file isn't
-- too long for a record, and a fault of the files says nothing of it.
abbrev pub RefusesRecord : List ℕ → Refusal → Option (List ℕ) → Type 0
RefusesRecord name (Missing missing) held = (missing.bytes ≡ name) × (held ≡ None)
RefusesRecord name (Record bad) (Some bytes) = IsWrongIn bytes bad
RefusesRecord name Memory (Some bytes) = length bytes ≤ 1048576
RefusesRecord name Read held = ⊤
RefusesRecord name _ _ = ⊥

-- ---- what is told of its decisions

-- the report that shows these decisions of a record, those with positions with boards where they are asked for, and each player's total of all
abbrev pub report_shown : Shown → (board : Bool) → RecordStakes → List Judged → List ℕ
report_shown Losses board stakes list = analysis_text list
report_shown Full board stakes list = full_text board stakes list
report_shown (Worst most) board stakes list = worst_text most board stakes list

-- ---- what reading a record may answer

-- the refusal that tells why a file of this name, which is to hold a record, was not read
abbrev pub TellsUnread : List ℕ → WholeStop → Refusal → Type 0
TellsUnread name whole.Missing (Missing missing) = missing.bytes ≡ name
TellsUnread name whole.Missing _ = ⊥
TellsUnread name whole.TooLong refusal = refusal ≡ Record (record { line = 0; fault = TooLong })
TellsUnread name whole.ReadFault refusal = refusal ≡ Read
TellsUnread name whole.NoMemory refusal = refusal ≡ Memory

-- the refusal of a plain text that is no record's, or of a record that breaks a rule, where for each line these are their numbers
abbrev pub record_refusal : List ℕ → RecordStop → Refusal
record_refusal numbers (stops.Bad bad) = Record (record bad { line = slice_index numbers bad.line })
record_refusal numbers stops.NoMemory = Memory

-- what is read of a text, or its first wrong line; want of memory says nothing of it
abbrev pub AnswersText : List ℕ → Result Replayed Refusal → Type 0
AnswersText text (Ok replayed) = HoldsRecord text replayed
AnswersText text (Err (Record bad)) = IsWrongIn text bad
AnswersText text (Err Memory) = ⊤
AnswersText text (Err _) = ⊥

-- what is read of a record in a file of this name, or what refuses it
abbrev pub AnswersRecord : List ℕ → Bool → Option (List ℕ) → Result Replayed Refusal → Type 0
AnswersRecord name told held (Ok replayed) =
    IsTrue told → OfHeld held (λ bytes. HoldsRecord bytes replayed)
AnswersRecord name told held (Err refusal) = IsTrue told → RefusesRecord name refusal held
