-- What a look-up in a file answers, and what stays.
use Rattle.std.proofs.Common.{◌≡◌, ◌∙◌, ℕ, ◌≤◌, ℤ, Bool, IsTrue, List, Option, None, Some, Result, Ok, Err, IfOk, IfErr, IsErrAnd, refl, sym, ap, subst, arith}
use Rattle.std.specs.Option.{option_map}
use Rattle.std.proofs.lemmas.Int.{ints}
use Rattle.std.proofs.lemmas.Result.{err_from_is_err_and}
use Rattle.position_rank.specs.Placement.{Placement}
use Rattle.directed_fixed.specs.declared.bounds.End.{End}
use Rattle.directed_fixed.specs.declared.bounds.End.TheVariants.{Lower, Upper}
use Rattle.directed_fixed.specs.Bounds.{IsNoLooser, IsWithinUnits}
use Rattle.cube_actions.specs.Stakes.{bound_of}
use Rattle.hyper_outside.specs.Causes.{Rose}
use Rattle.outside_log.specs.Files.{Contents, bytes_from}
use Rattle.hyper_outside.specs.declared.outside.LookStop.{LookStop}
use Rattle.hyper_outside.specs.declared.outside.LookStop.TheVariants.{ReadFault, BadPage, NoMemory}
use Rattle.turn_rule.specs.Turn.{Words}
use Rattle.turn_rule.specs.Looks.{FindsWord, IsAnswer, MayStop}
use Rattle.word_pages.specs.declared.flaws.Flaw.{Flaw}
use Rattle.base_head.specs.declared.header.Header.{Header}
use Rattle.database_file.specs.declared.kept.Spot.{Spot}
use Rattle.database_file.specs.declared.pages.Pages.{Pages}
use Rattle.database_file.specs.declared.pages.PagesStop.{PagesStop}
use Rattle.database_file.specs.declared.pages.PagesStop.TheVariants as pages
use Rattle.database_file.specs.Stops.{looking_stopped}
use Rattle.database_file.specs.PagedFiles.{PagedFile}
use Rattle.database_file.specs.Paged.{AnswersLook, AnswersWord, AreOfFile, Kept, bound_end, damage_of, flaw_at, notes_of, page_bytes, pages_told, paged_source, paged_source_of, spot_of, told_unless, told_words, word_at, words_of_pages}

-- a value is no looser than itself
no-looser : (end : End) (a b : ℤ) → a ≡ b → IsNoLooser end a b
no-looser Lower a b same = omega (arith, ints, same)
no-looser Upper a b same = omega (arith, ints, same)

-- what is told of a state on a page without a flaw is its word there
pub told-right : (header : Header) (file : Option (List ℕ)) (end : End) (p : Placement) (k : ℕ) → flaw_at header file p ≡ None → told_words header file end p k ≡ word_at header file end p k
told-right header file end p k right = ap (λ (flaw : Option Flaw). told_unless flaw (word_at header file end p k) (bound_end (bound_of header.name) end)) right

module _ (old new : PagedFile) (held : Contents) (kept : new ≡ record old { kept = new.kept }) where
  words-same : words_of_pages new held ≡ words_of_pages old held
  words-same = λ i. told_words (kept i).header (held (kept i).name)

  pub source-same : paged_source_of new held ≡ paged_source_of old held
  source-same = λ i. paged_source (kept i).header (held (kept i).name)

  module _ (tells now : Bool) (before-told : IsTrue now → IsTrue tells) (end : End) (p : Placement) (k before later : ℕ) where
    answer : (result : Result ℤ LookStop) → IfOk result (IsWithinUnits (bound_of old.header.name)) → (IsTrue now → AnswersLook old.header (held old.name) end p k result)
        → IfOk result (IsAnswer end (paged_source_of old held) (notes_of new now held) p k)
    answer (Ok value) within answers =
        let told = λ (told : IsTrue now).
        let found = answers told in
        found.1 ∙ sym (told-right old.header (held old.name) end p k found.0) in
        record {
          within = within;
          floor = λ is. no-looser end _ _ (told is);
          notes = λ is. no-looser end _ _ (ap (λ (words : Words). words end p k) words-same ∙ sym (told is));
          right = λ is. ap (option_map damage_of) (answers is).0;
        }
    answer (Err stop) within answers = tt

    stop : (result : Result ℤ LookStop) → (result ≡ Err ReadFault → Rose before later) → (IsTrue now → AnswersLook old.header (held old.name) end p k result)
        → IfErr result (MayStop (paged_source_of old held) (notes_of new now held) before later (λ damage. (paged_source_of old held).damage p k ≡ Some damage))
    stop (Ok value) cause answers = tt
    stop (Err ReadFault) cause answers = (refl, cause refl)
    stop (Err (BadPage fault at)) cause answers = (refl, λ told. ap (option_map damage_of) (answers told))
    stop (Err NoMemory) cause answers = refl

    pub looked : (result : Result ℤ LookStop) → before ≤ later → (result ≡ Err ReadFault → Rose before later) → IfOk result (IsWithinUnits (bound_of old.header.name))
        → (IsTrue now → AnswersLook old.header (held old.name) end p k result)
        → FindsWord end p k (record { source = paged_source_of old held; notes = notes_of old tells held; faults = before }) (record { source = paged_source_of new held; notes = notes_of new now held; faults = later }) result
    looked result rises cause within answers = record {
      later = rises;
      notes = record { told = before-told; words = λ is end p k state. no-looser end _ _ (ap (λ (words : Words). words end p k) words-same) };
      answer = answer result within answers;
      stop = stop result cause answers;
    }

-- ---- from pages to the files of their words

pub of-file : (pages others : Pages) (tells : Bool) (file other : Option (List ℕ)) (kept more : Kept) → pages ≡ others → file ≡ other → kept ≡ more → AreOfFile others tells other more → AreOfFile pages tells file kept
of-file pages others tells file other kept more same-pages same-file same-kept of =
    subst (λ (pages : Pages). AreOfFile pages tells file kept) (sym same-pages)
    (subst (λ (file : Option (List ℕ)). AreOfFile others tells file kept) (sym same-file)
    (subst (AreOfFile others tells other) (sym same-kept) of))

pub moved-answer : (held : Contents) (pages others : Pages) (name other : List ℕ) (spot place : Spot) (result : Result ℤ PagesStop) → pages ≡ others → name ≡ other → spot ≡ place
    → AnswersWord pages (bytes_from pages.at (held name)) spot result → AnswersWord others (bytes_from others.at (held other)) place result
moved-answer held pages others name other spot place result same-pages same-name same-spot answers =
    subst (λ (spot : Spot). AnswersWord others (bytes_from others.at (held other)) spot result) same-spot
    (subst (λ (name : List ℕ). AnswersWord others (bytes_from others.at (held name)) spot result) same-name
    (subst (λ (pages : Pages). AnswersWord pages (bytes_from pages.at (held name)) spot result) same-pages answers))

-- what stops at a page stops the look-up
pub look-stopped : (header : Header) (file : Option (List ℕ)) (end : End) (p : Placement) (k : ℕ) (stop : PagesStop) (result : Result ℤ LookStop)
    → AnswersWord (pages_told header file) (page_bytes header file) (spot_of header.kinds p k end) (Err stop)
    → IsErrAnd result (λ given. given ≡ looking_stopped stop) → AnswersLook header file end p k result
look-stopped header file end p k stop result answers given =
    let is = err_from_is_err_and result given in
    subst (AnswersLook header file end p k) (sym (is.1 ∙ ap (λ (stop : LookStop). Err stop) is.2)) (by_stop stop answers)
  where
    by_stop : (stop : PagesStop) → AnswersWord (pages_told header file) (page_bytes header file) (spot_of header.kinds p k end) (Err stop) → AnswersLook header file end p k (Err (looking_stopped stop))
    by_stop pages.ReadFault answers = tt
    by_stop (pages.BadPage flaw) answers = answers
    by_stop pages.NoMemory answers = tt
