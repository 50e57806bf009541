-- What a search of a file's states rests on, and what it tells.
use Rattle.std.specs.Prelude.{◌≡◌, ◌⊎◌, ℕ, List, Bool, Option, Ok}
use Rattle.position_text.specs.Text.{words}
use Rattle.outside_log.specs.Sink.{Output}
use Rattle.base_scan.specs.declared.condition.Test.{Test}
use Rattle.base_scan.specs.declared.found.State.{State}
use Rattle.base_scan.specs.Conditions.{AreConditionWords, IsFirstBad}
use Rattle.base_scan.specs.Found.{AreFound}
use Rattle.database_file.specs.Bases.{AnswersBase}
use Rattle.database_file.specs.FileBases.{FileBase}
use Rattle.database_file.specs.Faults.{Read as FileRead}
use Rattle.command_line.specs.declared.command.Scan.{Scan}
use Rattle.equity_report.specs.declared.refusal.Refusal.{Refusal}
use Rattle.equity_report.specs.declared.refusal.Refusal.TheVariants.{Condition}
use Rattle.whole_file_reports.specs.Scans.{scan_text}
use Rattle.run_endings.specs.Loads.{OfFile, RefusesLoading}
use Rattle.run_endings.specs.Endings.{Ending, Tells}

-- the text is that of the condition with these groups of tests
abbrev pub IsTextOf : List ℕ → List (List Test) → Type 0
IsTextOf text groups = AreConditionWords groups (words text)

-- some condition has this text
abbrev pub IsConditionText : List ℕ → Type 0
IsConditionText text = (groups : List (List Test)) × IsTextOf text groups

-- The states of a file were searched: the text is that of a condition; a head and words were read from the file, of the one that stood there where all
-- answers were faithful; and the report was put, in this way, of exactly those states that meet the condition over the words, in their order.
pub record HasScanned (task : Scan) (told : Bool) (held : Option (List ℕ))
    (IsReport : List ℕ → Type 0) : Type 0 where
  pub groups : List (List Test)
  pub condition : IsTextOf task.condition groups
  pub base : FileBase
  pub read : OfFile told held (λ file. AnswersBase file (Ok base))
  pub states : List State
  pub found : AreFound base.words groups states
  pub report : IsReport (scan_text base.words states)

-- the text is that of no condition: with this word first none can go on
pub record IsNoCondition (text : List ℕ) (refusal : Refusal) : Type 0 where
  pub word : ℕ
  pub first : IsFirstBad (words text) word
  pub line : refusal ≡ Condition word

-- a search is refused: the text is that of no condition, or else the file can't be loaded
abbrev pub RefusesScanning : Scan → Refusal → Option FileRead → Type 0
RefusesScanning task refusal file =
    IsNoCondition task.condition refusal
    ⊎ (IsConditionText task.condition × RefusesLoading task.file refusal file)

-- this refuses it, of the file that is held where all answers were faithful
abbrev pub MayRefuseScanning : Scan → Bool → Option (List ℕ) → Refusal → Type 0
MayRefuseScanning task told held refusal = OfFile told held (RefusesScanning task refusal)

-- how a search ends
abbrev pub TellsScan : Scan → Bool → Option (List ℕ) → Output → Output → Ending → Type 0
TellsScan task told held = Tells (HasScanned task told held) (MayRefuseScanning task told held)
