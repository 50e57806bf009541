-- Pages that are kept by their numbers.
use Rattle.std.proofs.Common.{◌≡◌, ◌∙◌, ℕ, ◌+◌, ◌*◌, ◌++◌, ◌≤◌, Bool, IsTrue, IfOk, List, length, Option, Result, Ok, Err, Some, Contains, Vec, Global, nat_eq, inl, inr, sym, ap, subst, arith}
use Rattle.std.specs.Map.{lookup}
use Rattle.std.proofs.lemmas.Bool.{eqb-true}
use Rattle.std.proofs.lemmas.List.{length-replicate}
use Rattle.std.proofs.Math.ListN.{replicate}
use Rattle.lru.specs.LruCache.{LruCache, lru_cache, promoted, put_entries}
use Rattle.lru.proofs.CallerLemmas.{Contains-lookup, Contains-promoted, Contains-put_entries}
use Rattle.outside_log.specs.Files.{bytes_from}
use Rattle.word_pages.specs.Flaws.{LieWithin}
use Rattle.word_pages.proofs.Texts.{length-words_of}
use Rattle.database_file.specs.declared.pages.Pages.{Pages}
use Rattle.database_file.specs.declared.pages.PagesStop.{PagesStop}
use Rattle.database_file.specs.declared.pages.PagesStop.TheVariants.{BadPage, NoMemory, ReadFault}
use Rattle.database_file.specs.Batches.{AnswersOn, IsBatch, batch_size}
use Rattle.database_file.specs.Pages.{whole_page, words_on}
use Rattle.database_file.specs.Paged.{AnswersOnePage, AreOfFile, IsPage, IsPageOf, Kept}
use Rattle.database_file.proofs.Batches.{is_part}
use Rattle.database_file.proofs.PageLists.{page-within}

-- each entry has something
abbrev pub Each : (ℕ × Vec ℕ Global → Type 0) → Kept → Type 0
Each P entries = (e : ℕ × Vec ℕ Global) → Contains entries e → P e

module _ (P : ℕ × Vec ℕ Global → Type 0) where
  -- so has the one that is found
  pub found : (entries : Kept) (number : ℕ) (v : Vec ℕ Global) → Each P entries → lookup (nat_eq number) entries ≡ Some v → P (number, v)
  found entries number v each is =
      let at = Contains-lookup (nat_eq number) entries v is in
      subst (λ (n : ℕ). P (n, v)) (sym (eqb-true number at.0 at.2)) (each (at.0, v) at.1)

  -- so have all where one was used
  pub used : (kept after : LruCache ℕ (Vec ℕ Global)) (number : ℕ) → Each P kept.entries → after ≡ lru_cache (promoted (nat_eq number) kept.entries) kept.cap → Each P after.entries
  used kept after number each is e among =
      each e (Contains-promoted (nat_eq number) kept.entries e (subst (λ (k : LruCache ℕ (Vec ℕ Global)). Contains k.entries e) is among))

  -- so have all where one more has it
  pub added : (kept after : LruCache ℕ (Vec ℕ Global)) (number : ℕ) (v : Vec ℕ Global) → Each P kept.entries → P (number, v) → after ≡ lru_cache (put_entries nat_eq kept number v) kept.cap → Each P after.entries
  added kept after number v each one is e among = elim (Contains-put_entries nat_eq kept number v e (subst (λ (k : LruCache ℕ (Vec ℕ Global)). Contains k.entries e) is among)) [
    | inl old ↦ each e old
    | inr new ↦ subst (λ (v : Vec ℕ Global). P (e.0, v)) (sym new.0) (subst (λ (n : ℕ). P (n, v)) (elim new.1 [
      | inl same ↦ sym same
      | inr equal ↦ eqb-true number e.0 equal.2
    ]) one)
  ]

-- pages stay those of a file that stays
pub moved : (pages : Pages) (tells now : Bool) (file after : Option (List ℕ)) (kept : Kept) → (IsTrue now → IsTrue tells) → after ≡ file → AreOfFile pages tells file kept → AreOfFile pages now after kept
moved pages tells now file after kept was files of told e among =
    subst (λ (file : Option (List ℕ)). IsPageOf pages (bytes_from pages.at file) e.0 e.1.items) (sym files) (of (was told) e among)

-- what was read of a page that is right is one
pub is-page : (pages : Pages) (page : ℕ) (all : List ℕ) (words : Vec ℕ Global) → AnswersOn pages page all (Ok words) → IsPage pages page words.items
is-page pages page all words told = record {
  long = ap (λ (words : List ℕ). length words) told.1 ∙ length-words_of pages.version (words_on pages page) _;
  within = subst (LieWithin pages.bound) (sym told.1) (page-within pages all page told.0);
}

-- whatever stands before it
pub one-page : (pages : Pages) (page : ℕ) (bytes : List ℕ) (result : Result (Vec ℕ Global) PagesStop) → length bytes ≤ batch_size pages (record { first = page; past = page + 1 })
    → ((all : List ℕ) → IsBatch pages (record { first = page; past = page + 1 }) bytes all → AnswersOn pages (page + 0) all result) → IfOk result (λ words. IsPage pages page words.items)
one-page pages page bytes (Err stop) few read = tt
one-page pages page bytes (Ok words) few read =
    let before : List ℕ = replicate (page * whole_page pages) 0 in
    let all : List ℕ = before ++ bytes in
    let told = read all (is_part pages (record { first = page; past = page + 1 }) before bytes (length-replicate (page * whole_page pages) 0) few) in
    is-page pages page all words (subst (λ (page : ℕ). AnswersOn pages page all (Ok words)) (omega arith) told)

-- and of a file
pub page-told : (pages : Pages) (page : ℕ) (all : List ℕ) (result : Result (Vec ℕ Global) PagesStop) → AnswersOn pages (page + 0) all result → AnswersOnePage pages all page result
page-told pages page all result told = by_result result (subst (λ (page : ℕ). AnswersOn pages page all result) (omega arith) told)
  where
    by_result : (result : Result (Vec ℕ Global) PagesStop) → AnswersOn pages page all result → AnswersOnePage pages all page result
    by_result (Ok words) told = record { right = told.0; holds = told.1 }
    by_result (Err (BadPage flaw)) told = told
    by_result (Err ReadFault) told = tt
    by_result (Err NoMemory) told = tt
