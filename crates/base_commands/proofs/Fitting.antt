-- Of which game a file is, and what refuses a right one.
use Rattle.std.proofs.Common.{◌≡◌, List, ℕ, Option, Some, None, Ok, subst}
use Rattle.std.specs.Option.{option_map}
use Rattle.outside_log.specs.Files.{Contents}
use Rattle.base_head.specs.Heads.{FileHead}
use Rattle.base_head.specs.declared.header.Header.{Header}
use Rattle.database_file.specs.Faults.{whole}
use Rattle.database_file.specs.Opened.{AnswersPaged}
use Rattle.database_file.specs.PagedFiles.{PagedFile}
use Rattle.equity_report.specs.declared.refusal.Refusal.{Refusal}
use Rattle.run_endings.specs.Pages.{IsOfOther, OfHeld}

-- a file that was opened is of another game
pub opened-other : (IsOther : FileHead → Refusal → Type 0) (held : Option (List ℕ)) (base : PagedFile) (refusal : Refusal) → AnswersPaged (option_map whole held) (Ok base) → IsOther base.head refusal
    → OfHeld held (λ bytes. IsOfOther IsOther bytes refusal)
opened-other IsOther None base refusal a other = absurd a
opened-other IsOther (Some bytes) base refusal a other = record { front = a.right; other = subst (λ (h : FileHead). IsOther h refusal) a.head other }

-- of a file of the same name, after some calls
pub moved : (Q : Header → Option (List ℕ) → Type 0) (header other : Header) (name named : List ℕ) (held after : Contents) → header ≡ other → name ≡ named → after named ≡ held named → Q header (after name) → Q other (held named)
moved Q header other name named held after same_header same_name same_held q =
    subst (λ (h : Header). Q h (held named)) same_header (subst (Q header) same_held (subst (λ (n : List ℕ). Q header (after n)) same_name q))
