-- A right file is refused for no fault of its own.
use Rattle.std.proofs.Common.{◌≡◌, ◌∙◌, List, ℕ, Contains, Option, Some, None, IfSome, inl, inr, sym, ap, subst}
use Rattle.std.specs.Option.{option_map}
use Rattle.std.proofs.lemmas.Option.{none-some}
use Rattle.position_rank.specs.Placement.{Placement}
use Rattle.cube_actions.specs.declared.name.KindName.{KindName}
use Rattle.cube_actions.specs.Names.{names_of}
use Rattle.turn_rule.specs.Looks.{States}
use Rattle.word_pages.specs.declared.flaws.Flaw.{Flaw}
use Rattle.word_pages.specs.declared.version.Version.{Version}
use Rattle.word_pages.specs.declared.version.Version.TheVariants.{Three}
use Rattle.base_head.specs.Fronts.{bad_of, head_in}
use Rattle.base_head.specs.Heads.{FileHead}
use Rattle.database_file.specs.Bases.{IsBaseFrom, IsBaseOf}
use Rattle.database_file.specs.FileBases.{FileBase}
use Rattle.database_file.specs.Faults.{Read as FileRead, fault_before_pages, header_of_file, whole}
use Rattle.database_file.specs.Paged.{flaw_at}
use Rattle.equity_report.specs.declared.refusal.Refusal.{Refusal}
use Rattle.equity_report.specs.declared.refusal.Refusal.TheVariants.{Missing, File, Read, Memory}
use Rattle.run_endings.specs.Endings.{IsOutside}
use Rattle.run_endings.specs.Loads.{RefusesFrom}
use Rattle.run_endings.specs.Pages.{RefusesOpening, RefusesOpeningFor}
use Rattle.run_endings.specs.Games.{HasState, RefusesLoadingFor, WantsOther}
use Rattle.run_laws.specs.RightFiles.{CanLookUp}

-- ---- right files

-- a right file without a fault is refused by no fault of its own
pub right-loads : (oldest : Version) (name : List ℕ) (read : FileRead) (base : FileBase) → IsBaseFrom oldest read base → (refusal : Refusal) → RefusesFrom oldest name refusal (Some read) → IsOutside refusal
right-loads oldest name read base is (Missing missing) r = absurd (none-some read (sym r.1))
right-loads oldest name read base is (File bad) r = absurd (none-some bad (sym is.right ∙ r))
right-loads oldest name read base is Read r = tt
right-loads oldest name read base is Memory r = tt
right-loads oldest name read base is refusal r = absurd r

-- nor is it of another game, where its head is of none
pub right-fits : (IsOther : FileHead → Refusal → Type 0) (name : List ℕ) (read : FileRead) (base : FileBase) → IsBaseOf read base → (refusal : Refusal) → (IsOther base.head refusal → ⊥)
    → RefusesLoadingFor IsOther name refusal (Some read) → IsOutside refusal
right-fits IsOther name read base is refusal fits (inl r) = right-loads Three name read base is refusal r
right-fits IsOther name read base is refusal fits (inr other) =
    let same : other.base ≡ base = other.read.holds ∙ sym is.holds in
    absurd (fits (subst (λ (b : FileBase). IsOther b.head refusal) same other.other))

-- a game that has the state is no other than is asked for
pub not-other : (p : Placement) (asked : Option KindName) (head : FileHead) (refusal : Refusal) → HasState p asked head → WantsOther p asked head refusal → ⊥
not-other p asked head refusal has (inl w) = w.other has.checkers
not-other p asked head refusal has (inr w) = w.none (subst (λ (name : Option KindName). IfSome name (Contains (names_of head.name))) w.is_asked has.kind)

-- ---- files that are looked up

-- what is right before the pages refuses nothing
pub right-opens : (name bytes : List ℕ) → fault_before_pages (whole bytes) ≡ None → (refusal : Refusal) → RefusesOpening name refusal (Some bytes) → IsOutside refusal
right-opens name bytes front (Missing missing) r = absurd (none-some bytes (sym r.1))
right-opens name bytes front (File bad) r = absurd (none-some bad (sym front ∙ r))
right-opens name bytes front Read r = tt
right-opens name bytes front Memory r = tt
right-opens name bytes front refusal r = absurd r

module _ {Fits : FileHead → Type 0} {Rests : FileHead → States} (bytes : List ℕ) (can : CanLookUp Fits Rests bytes) where
  abbrev there : FileHead
  there = head_in (header_of_file bytes) bytes

  -- nor does its head, where it is of no other game
  pub right-front : (IsOther : FileHead → Refusal → Type 0) (name : List ℕ) (refusal : Refusal) → (IsOther there refusal → ⊥) → RefusesOpeningFor IsOther name refusal (Some bytes) → IsOutside refusal
  right-front IsOther name refusal fits (inl r) = right-opens name bytes can.front refusal r
  right-front IsOther name refusal fits (inr other) = absurd (fits other.other)

  -- nor a page on which it rests what is sought
  pub right-page : (position : Placement) (kind : ℕ) → Rests there position kind → (refusal : Refusal)
      → option_map (λ (flaw : Flaw). File (bad_of flaw)) (flaw_at (header_of_file bytes) (Some bytes) position) ≡ Some refusal → ⊥
  right-page position kind rests refusal bad =
      none-some refusal (sym (ap (option_map (λ (flaw : Flaw). File (bad_of flaw))) (can.pages position kind rests)) ∙ bad)
