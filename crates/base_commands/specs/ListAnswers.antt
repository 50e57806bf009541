-- What is answered to the lines of a list from a file.
use Rattle.std.specs.Prelude.{◌≡◌, ◌⊎◌, ◌≤◌, ℕ, List, ◌++◌, length, Bool, IsTrue, Option, None, Result, Ok, Err, Vec, ⊤}
use Rattle.std.specs.Global.{Global}
use Rattle.std.specs.List.{flat_map}
use Rattle.std.specs.Option.{option_map}
use Rattle.std.specs.Str.Lines.{lines}
use Rattle.outside_log.specs.Files.{Contents}
use Rattle.outside_log.specs.Sink.{Output}
use Rattle.hyper_outside.specs.declared.outside.LookStop.{LookStop}
use Rattle.hyper_outside.specs.declared.outside.LookStop.TheVariants.{BadPage}
use Rattle.hyper_outside.specs.declared.outside.PageFault.{PageFault}
use Rattle.database_file.specs.Faults.{fault_before_pages, whole}
use Rattle.database_file.specs.Opened.{AnswersPaged}
use Rattle.database_file.specs.PagedFiles.{PagedFile}
use Rattle.base_reports.specs.Lists.{best_play_line, refused_line, shown_line}
use Rattle.equity_report.specs.declared.refusal.Refusal.{Refusal}
use Rattle.run_endings.specs.Endings.{Ending, Tells}
use Rattle.run_endings.specs.Loads.{look_refusal}
use Rattle.run_endings.specs.Pages.{OfHeld, RefusesOpening}
use Rattle.base_commands.specs.declared.list_answers.LineAnswer.{LineAnswer}
use Rattle.base_commands.specs.declared.list_answers.LineAnswer.TheVariants.{Ranked, Refused, Shown}
use Rattle.base_commands.specs.declared.list_answers.LineSought.{LineSought}
use Rattle.base_commands.specs.declared.list_answers.LineSought.TheVariants.{Pairs, Play}
use Rattle.base_commands.specs.AdviseLists.{AdvisesLine}
use Rattle.base_commands.specs.Advises.{CanBePlayed}
use Rattle.base_commands.specs.Lists.{AnswerEach, RefusesList}
use Rattle.base_commands.specs.ShowLists.{ShowsLine}

-- what a file's bytes answer to a line
abbrev pub LineAnswers : Type 1
LineAnswers = List ℕ → List ℕ → LineAnswer → Type 0

-- in a file of this name, of what is sought
abbrev pub AnswersLine : LineSought → List ℕ → LineAnswers
AnswersLine Pairs file = ShowsLine
AnswersLine (Play asked) file = AdvisesLine file asked

-- its line of the report
abbrev pub answer_line : LineAnswer → List ℕ
answer_line (Shown shown) = shown_line shown.position shown.rows.items
answer_line (Ranked ranked) =
    best_play_line ranked.rolled.position ranked.rolled.roll ranked.kind.name ranked.ranking
answer_line (Refused refusal) = refused_line refusal

-- ---- the list

-- the front of the file is right, the list isn't too long, and each of its lines has its answer
pub record AnswersLines (Answers : LineAnswers) (bytes list : List ℕ)
    (answers : List LineAnswer) : Type 0 where
  pub front : fault_before_pages (whole bytes) ≡ None
  pub short : length list ≤ 67108864
  pub each : AnswerEach (Answers bytes) (lines list) answers

-- The lines of the answers were put, in this way; where all answers of the files were faithful, they are those to the lines of the list.
pub record HasListed (file list : List ℕ) (Answers : LineAnswers) (told : Bool) (held : Contents)
    (IsReport : List ℕ → Type 0) : Type 0 where
  pub answers : List LineAnswer
  pub files : IsTrue told → OfHeld (held file) (λ bytes.
      OfHeld (held list) (λ text. AnswersLines Answers bytes text answers))
  pub report : IsReport (flat_map answer_line answers)

-- the list is refused, or the file can't be opened
abbrev pub RefusesListing : List ℕ → List ℕ → Refusal → Contents → Type 0
RefusesListing file list refusal held =
    RefusesList list refusal (held list) ⊎ RefusesOpening file refusal (held file)

-- how answering a list ends
abbrev pub TellsListed : List ℕ → List ℕ → LineAnswers → Bool → Contents → Output → Output → Ending
    → Type 0
TellsListed file list Answers told held = Tells (HasListed file list Answers told held)
    (λ refusal. IsTrue told → RefusesListing file list refusal held)

-- ---- what look-ups in a file may answer

-- where a file was opened as this base, something is so of its bytes
abbrev pub OfOpened : PagedFile → Option (List ℕ) → (List ℕ → Type 0) → Type 0
OfOpened base held P = AnswersPaged (option_map whole held) (Ok base) → OfHeld held P

-- a line can be made of it: a pair for each of at most 14 kinds, or plays that can be made from the position
abbrev pub IsTellable : LineAnswer → Type 0
IsTellable (Shown shown) = length shown.rows.items ≤ 14
IsTellable (Ranked ranked) = CanBePlayed ranked.rolled.position ranked.ranking.rows.items
IsTellable (Refused refusal) = ⊤

-- a page that isn't right is a line's refusal; a fault of the files or of memory is none
abbrev pub AnswersStop : LookStop → Result LineAnswer Refusal → Type 0
AnswersStop stop (Ok answer) =
    (answer ≡ Refused (look_refusal stop)) × (fault : PageFault) × (at : ℕ)
    × (stop ≡ BadPage fault at)
AnswersStop stop (Err refusal) = refusal ≡ look_refusal stop

-- the line of an answer was added, which is that to this line where all answers of the files were faithful
pub record AddsAnswer (Answers : LineAnswers) (base : PagedFile) (held : Option (List ℕ))
    (told : Bool) (line old new : List ℕ) : Type 0 where
  pub answer : LineAnswer
  pub answers : IsTrue told → OfOpened base held (λ bytes. Answers bytes line answer)
  pub added : new ≡ old ++ answer_line answer

-- the lines of some answers were added, which are those to these lines where all answers of the files were faithful
pub record AddsAnswers (Answers : LineAnswers) (base : PagedFile) (held : Option (List ℕ))
    (told : Bool) (texts : List (List ℕ)) (old new : List ℕ) : Type 0 where
  pub answers : List LineAnswer
  pub each : IsTrue told → OfOpened base held (λ bytes. AnswerEach (Answers bytes) texts answers)
  pub added : new ≡ old ++ flat_map answer_line answers

-- the report on a list, or what refuses it
abbrev pub AnswersListed : List ℕ → List ℕ → LineAnswers → Bool → Contents
    → Result (Vec ℕ Global) Refusal → Type 0
AnswersListed file list Answers told held (Ok report) =
    HasListed file list Answers told held (λ text. report.items ≡ text)
AnswersListed file list Answers told held (Err refusal) =
    IsTrue told → RefusesListing file list refusal held
