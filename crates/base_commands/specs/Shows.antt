-- A position's pairs from a file.
use Rattle.std.specs.Prelude.{◌≡◌, ◌⊎◌, ℕ, suc, List, [], ◌∷◌, Bool, IsTrue, sum, Option, Some, None, Result, Ok, Err, ⊤}
use Rattle.std.specs.Option.{option_map}
use Rattle.arrayvec.specs.ArrayVec.{ArrayVec}
use Rattle.position_rank.specs.Placement.{Placement}
use Rattle.outside_log.specs.Sink.{Output}
use Rattle.hyper_outside.specs.declared.outside.LookStop.{LookStop}
use Rattle.hyper_outside.specs.declared.outside.LookStop.TheVariants as looks
use Rattle.cube_actions.specs.declared.name.KindName.{KindName}
use Rattle.cube_actions.specs.Names.{names_of}
use Rattle.directed_fixed.specs.Bounds.{Bounds}
use Rattle.turn_rule.specs.States.{pair_of}
use Rattle.turn_rule.specs.Turn.{Words}
use Rattle.base_head.specs.Fronts.{bad_of, head_in}
use Rattle.base_head.specs.Heads.{FileHead}
use Rattle.base_head.specs.declared.header.Header.{Header}
use Rattle.database_file.specs.Faults.{fault_before_pages, header_of_file, whole}
use Rattle.database_file.specs.Paged.{flaw_at, word_at}
use Rattle.base_reports.specs.declared.shown.KindRow.{KindRow}
use Rattle.equity_report.specs.declared.refusal.Refusal.{Refusal}
use Rattle.equity_report.specs.declared.refusal.Refusal.TheVariants.{File}
use Rattle.base_reports.specs.Shown.{shown_text}
use Rattle.command_line.specs.declared.command.Show.{Show as ShowTask}
use Rattle.base_commands.specs.declared.show.Shown.{Shown}
use Rattle.run_endings.specs.Endings.{Ending, Tells}
use Rattle.run_endings.specs.Loads.{game_told}
use Rattle.run_endings.specs.Pages.{OfHeld, RefusesOpeningFor, words_in_file}
use Rattle.run_endings.specs.Games.{WantsCheckers}

-- a row for each of these kinds, which are counted from k, with the pair of the position in this kind
abbrev pub rows_from : Words → Placement → ℕ → List KindName → List KindRow
rows_from u p k [] = []
rows_from u p k (name ∷ names) =
    record { kind = name; pair = pair_of u p k } ∷ rows_from u p (suc k) names

-- A file has a position's pairs: nothing is wrong with what stands before its pages, nor with the position's page, and these are the pairs in the
-- kinds of its head, in order.
pub record ShowsPairs (bytes : List ℕ) (p : Placement) (head : FileHead)
    (rows : List KindRow) : Type 0 where
  pub front : fault_before_pages (whole bytes) ≡ None
  pub page : flaw_at (header_of_file bytes) (Some bytes) p ≡ None
  pub head_is : head ≡ head_in (header_of_file bytes) bytes
  pub checkers : head.checkers ≡ sum p.mover
  pub pairs : rows ≡ rows_from (words_in_file bytes) p 0 (names_of head.name)

-- The report of a position's pairs was put, in this way; where all answers were faithful, they are those of the file.
pub record HasShown (task : ShowTask) (told : Bool) (held : Option (List ℕ))
    (IsReport : List ℕ → Type 0) : Type 0 where
  pub head : FileHead
  pub rows : List KindRow
  pub file : IsTrue told → OfHeld held (λ bytes. ShowsPairs bytes task.position head rows)
  pub report : IsReport (shown_text task.board task.id task.position (game_told head)
      head.rounds rows)

-- the position has the head's checkers, and this is wrong with its page
pub record IsBadAt (bytes : List ℕ) (p : Placement) (refusal : Refusal) : Type 0 where
  pub front : fault_before_pages (whole bytes) ≡ None
  pub checkers : (head_in (header_of_file bytes) bytes).checkers ≡ sum p.mover
  pub page : option_map (λ flaw. File (bad_of flaw)) (flaw_at (header_of_file bytes) (Some bytes) p)
      ≡ Some refusal

-- A position's pairs in a file of this name are refused: it can't be opened, it is of another number of checkers, or something is wrong with the
-- position's page.
abbrev pub RefusesShowing : ShowTask → Refusal → Option (List ℕ) → Type 0
RefusesShowing task refusal held =
    RefusesOpeningFor (WantsCheckers task.position) task.file refusal held
    ⊎ OfHeld held (λ bytes. IsBadAt bytes task.position refusal)

-- how showing a position ends
abbrev pub TellsShown : ShowTask → Bool → Option (List ℕ) → Output → Output → Ending → Type 0
TellsShown task told held =
    Tells (HasShown task told held) (λ refusal. IsTrue told → RefusesShowing task refusal held)

-- ---- what look-ups in a file may answer

-- A position's page has no flaw, and what was looked up on it is right; or this is the page's first flaw. A fault of the files or of memory says
-- nothing.
abbrev pub AnswersOnPage : {A : Type 0} → Header → Option (List ℕ) → Placement → (A → Type 0)
    → Result A LookStop → Type 0
AnswersOnPage header file p right (Ok found) = (flaw_at header file p ≡ None) × right found
AnswersOnPage header file p right (Err (looks.BadPage fault at)) =
    flaw_at header file p ≡ Some (record { fault = fault; at = at })
AnswersOnPage header file p right (Err _) = ⊤

-- the pair of a state
abbrev pub AnswersPair : Header → Option (List ℕ) → Placement → ℕ → Result Bounds LookStop → Type 0
AnswersPair header file p k =
    AnswersOnPage header file p (λ pair. pair ≡ pair_of (word_at header file) p k)

-- the pairs of a position, in each kind
abbrev pub AnswersRows : Header → Option (List ℕ) → Placement → Result (ArrayVec KindRow) LookStop
    → Type 0
AnswersRows header file p =
    AnswersOnPage header file p (λ (rows : ArrayVec KindRow).
    rows.items ≡ rows_from (word_at header file) p 0 (names_of header.name))

-- what is shown is of this head
pub record IsOfHead (shown : Shown) (head : FileHead) : Type 0 where
  pub game : shown.game ≡ game_told head
  pub rounds : shown.rounds ≡ head.rounds

-- what is shown of a task, where all answers were faithful that of the file that is held, or what refuses it
abbrev pub AnswersShow : ShowTask → Bool → Option (List ℕ) → Result Shown Refusal → Type 0
AnswersShow task told held (Ok shown) =
    (head : FileHead) × IsOfHead shown head
    × (IsTrue told → OfHeld held (λ bytes. ShowsPairs bytes task.position head shown.rows.items))
AnswersShow task told held (Err refusal) = IsTrue told → RefusesShowing task refusal held
