-- What commands know of a file whose pages they look up.
use Rattle.std.specs.Prelude.{◌≡◌, ℕ, List, Option, Some, None, Result, Ok, Err, ◌⊎◌, ⊤}
use Rattle.std.specs.Option.{option_map}
use Rattle.position_rank.specs.Placement.{Placement}
use Rattle.hyper_outside.specs.declared.outside.LookStop.{LookStop}
use Rattle.hyper_outside.specs.declared.outside.LookStop.TheVariants as looks
use Rattle.directed_fixed.specs.declared.bounds.End.{End}
use Rattle.turn_rule.specs.Looks.{Damage, Meets, States}
use Rattle.turn_rule.specs.States.{IsStateOf}
use Rattle.turn_rule.specs.Turn.{Words}
use Rattle.interval_words.specs.Numbers.{words_of}
use Rattle.base_head.specs.Fronts.{bad_of, head_in}
use Rattle.base_head.specs.Heads.{FileHead}
use Rattle.base_head.specs.declared.header.Header.{Header}
use Rattle.database_file.specs.Bases.{words_of_file}
use Rattle.database_file.specs.Faults.{fault_before_pages, header_of_file, whole}
use Rattle.database_file.specs.Opened.{AnswersPaged}
use Rattle.database_file.specs.Paged.{flaw_at, paged_source}
use Rattle.database_file.specs.PagedFiles.{PagedFile}
use Rattle.equity_report.specs.declared.refusal.Refusal.{Refusal}
use Rattle.equity_report.specs.declared.refusal.Refusal.TheVariants.{Missing, File, Read, Memory}

-- ---- the words of a file

-- two for each state
abbrev pub words_in_file : List ℕ → Words
words_in_file bytes = words_of (header_of_file bytes).kinds (words_of_file bytes)

-- words that have a file's pair of each state whose page is right
abbrev pub HavePairsOf : List ℕ → Words → Type 0
HavePairsOf bytes u =
    (end : End) (p : Placement) (k : ℕ)
    → IsStateOf (header_of_file bytes).checkers (header_of_file bytes).kinds p k
    → flaw_at (header_of_file bytes) (Some bytes) p ≡ None → u end p k ≡ words_in_file bytes end p k

-- each of these states stands on a page without a flaw
abbrev pub AreOnRightPages : List ℕ → States → Type 0
AreOnRightPages bytes states =
    (p : Placement) (k : ℕ) → states p k → flaw_at (header_of_file bytes) (Some bytes) p ≡ None

-- this is the first flaw of the page of one of these states
pub record IsOnBadPage (bytes : List ℕ) (states : States) (refusal : Refusal) : Type 0 where
  pub position : Placement
  pub kind : ℕ
  pub among : states position kind
  pub page : option_map (λ flaw. File (bad_of flaw))
      (flaw_at (header_of_file bytes) (Some bytes) position) ≡ Some refusal

-- this tells the damage of a file's pages that is met first
pub record TellsFirst (bytes : List ℕ) (meets : Meets) (refusal : Refusal) : Type 0 where
  pub damage : Damage
  pub met : meets (paged_source (header_of_file bytes) (Some bytes)) damage
  pub told : refusal ≡ File (bad_of (record { fault = damage.fault; at = damage.at }))

-- something is so of the file that is held
abbrev pub OfHeld : Option (List ℕ) → (List ℕ → Type 0) → Type 0
OfHeld (Some bytes) P = P bytes
OfHeld None P = ⊥

-- ---- why a file isn't opened

-- A file of this name is refused before its pages are looked at: there is none, or something is wrong with what stands before them. A fault
-- of the files or of memory says nothing of it.
abbrev pub RefusesOpening : List ℕ → Refusal → Option (List ℕ) → Type 0
RefusesOpening name (Missing missing) held = (missing.bytes ≡ name) × (held ≡ None)
RefusesOpening name (File bad) (Some bytes) = fault_before_pages (whole bytes) ≡ Some bad
RefusesOpening name Read held = ⊤
RefusesOpening name Memory held = ⊤
RefusesOpening name _ _ = ⊥

-- what stands before a file's pages is right, and its head is of another game than is wanted
pub record IsOfOther (IsOther : FileHead → Refusal → Type 0) (bytes : List ℕ)
    (refusal : Refusal) : Type 0 where
  pub front : fault_before_pages (whole bytes) ≡ None
  pub other : IsOther (head_in (header_of_file bytes) bytes) refusal

-- a file of this name is refused so, or it is of another game than is wanted
abbrev pub RefusesOpeningFor : (FileHead → Refusal → Type 0) → List ℕ → Refusal → Option (List ℕ)
    → Type 0
RefusesOpeningFor IsOther name refusal held =
    RefusesOpening name refusal held ⊎ OfHeld held (λ bytes. IsOfOther IsOther bytes refusal)

-- ---- what may be answered

-- a file of this name was opened, or this refuses it
abbrev pub AnswersOpening : List ℕ → Option (List ℕ) → Result PagedFile Refusal → Type 0
AnswersOpening name held (Ok base) = AnswersPaged (option_map whole held) (Ok base)
AnswersOpening name held (Err refusal) = RefusesOpening name refusal held

-- This is what is sought from the file's words, or this damage is met first; a fault of the files or of memory says nothing.
abbrev pub AnswersSought : {A : Type 0} → Header → Option (List ℕ) → Meets → (A → Type 0)
    → Result A LookStop → Type 0
AnswersSought header file meets right (Ok found) = right found
AnswersSought header file meets right (Err (looks.BadPage fault at)) =
    meets (paged_source header file) (record { fault = fault; at = at })
AnswersSought header file meets right (Err _) = ⊤
