-- Pages of words that follow one another.
use Rattle.std.proofs.Common.{◌≡◌, ◌∙◌, ℕ, zero, suc, ◌+◌, ◌*◌, ◌-◌, ◌<◌, ◌≤◌, List, ◌++◌, length, take, drop, Option, None, Some, is_none, length-append, length-drop, refl, sym, ap, ap₂, subst, arith}
use Rattle.std.proofs.Math.Nat.{le-div_iff_mul-le, mul-le-mul_left, suc-mul}
use Rattle.std.proofs.Math.Seq.{drop-nil}
use Rattle.std.proofs.lemmas.Bool.{false≢true}
use Rattle.std.proofs.lemmas.List.{drop-append-le, drop-drop, length-take, take-append-le}
use Rattle.std.specs.Option.{option_or}
use Rattle.outside_log.specs.Files.{bytes_from}
use Rattle.word_pages.specs.declared.flaws.Flaw.{Flaw}
use Rattle.word_pages.specs.Words.{word_size, words_in_bytes}
use Rattle.word_pages.specs.Pages.{page_size, page_flaw}
use Rattle.word_pages.proofs.PageFlaws.{page_flaw-take}
use Rattle.word_pages.proofs.Texts.{words_of-take}
use Rattle.word_pages.proofs.Within.{or_none}
use Rattle.database_file.specs.declared.pages.Pages.{Pages}
use Rattle.database_file.specs.Batches.{AreRead}
use Rattle.database_file.specs.Pages.{binding_on, first_flaw, first_words, flaw_in, flaw_on, page_count, page_words, place_of, whole_page, words_on}

-- the bytes behind others
pub bytes_behind : (at more : ℕ) (file : Option (List ℕ)) → bytes_from (at + more) file ≡ drop more (bytes_from at file)
bytes_behind at more None = sym (drop-nil more)
bytes_behind at more (Some bytes) = sym (drop-drop more at bytes)

-- ---- the first pages

-- no page is longer than a whole one
pub page_fits : (pages : Pages) (page : ℕ) → page_size pages.version (words_on pages page) ≤ whole_page pages
page_fits pages page =
    let few : words_on pages page ≤ pages.size = omega arith in
    omega (arith, mul-le-mul_left (word_size pages.version) few)

-- what stands behind a page doesn't matter for it
page-front : (pages : Pages) (page : ℕ) (bytes more : List ℕ) → suc page * whole_page pages ≤ length bytes
    → (flaw_on pages (bytes ++ more) page ≡ flaw_on pages bytes page) × (page_words pages (bytes ++ more) page ≡ page_words pages bytes page)
page-front pages page bytes more long =
    let n = words_on pages page in
    let at = place_of pages page in
    let size = page_size pages.version n in
    let start = page * whole_page pages in
    let there : List ℕ = drop start bytes in
    let fits = page_fits pages page in
    let next = suc-mul page (whole_page pages) in
    let begins : start ≤ length bytes = omega (arith, long, next) in
    let ends : size ≤ length there = omega (arith, long, next, fits, length-drop start bytes) in
    let split : drop start (bytes ++ more) ≡ there ++ more = drop-append-le start bytes more begins in
    let same : take size (there ++ more) ≡ take size there = take-append-le size there more ends in (
      ap (page_flaw pages.version (binding_on pages page) pages.bound n at) split
          ∙ sym (page_flaw-take pages.version (binding_on pages page) pages.bound n at (there ++ more)) ∙ ap (page_flaw pages.version (binding_on pages page) pages.bound n at) same ∙ page_flaw-take pages.version (binding_on pages page) pages.bound n at there,
      ap (words_in_bytes pages.version n) split
          ∙ sym (words_of-take pages.version n size (there ++ more) (omega arith)) ∙ ap (words_in_bytes pages.version n) same ∙ words_of-take pages.version n size there (omega arith),
    )

-- nor for those before it
pub first-front : (pages : Pages) (n : ℕ) (bytes more : List ℕ) → n * whole_page pages ≤ length bytes
    → (first_flaw pages (bytes ++ more) n ≡ first_flaw pages bytes n) × (first_words pages (bytes ++ more) n ≡ first_words pages bytes n)
first-front pages zero bytes more long = (refl, refl)
first-front pages (suc n) bytes more long =
    let before = first-front pages n bytes more (omega (arith, long, suc-mul n (whole_page pages))) in
    let last = page-front pages n bytes more long in
    (ap₂ (λ (one : Option Flaw) (other : Option Flaw). option_or one other) before.0 last.0, ap₂ (λ (one : List ℕ) (other : List ℕ). one ++ other) before.1 last.1)

pub read-front : (pages : Pages) (n : ℕ) (bytes more words : List ℕ) → length bytes ≡ n * whole_page pages → AreRead pages bytes n words → AreRead pages (bytes ++ more) n words
read-front pages n bytes more words long read =
    let same = first-front pages n bytes more (omega (arith, long)) in
    record { right = same.0 ∙ read.right; words = read.words ∙ sym same.1 }

-- one page more
pub one_more : (pages : Pages) (n next : ℕ) (bytes words new : List ℕ) → next ≡ suc n → AreRead pages bytes n words
    → (flaw_on pages bytes n ≡ None) × (new ≡ words ++ page_words pages bytes n) → AreRead pages bytes next new
one_more pages n next bytes words new is read added = subst (λ (n : ℕ). AreRead pages bytes n new) (sym is) (record {
  right = or_none _ _ read.right added.0;
  words = added.1 ∙ ap (λ (words : List ℕ). words ++ page_words pages bytes n) read.words;
})

-- a page behind which there is another one is a whole one
pub is_whole : (pages : Pages) (page : ℕ) → 0 < pages.size → suc page < page_count pages → words_on pages page ≡ pages.size
is_whole pages page some more =
    let fill = (le-div_iff_mul-le {k = pages.size} {x = suc (suc page)} {y = pages.count + (pages.size - 1)} some).0 more in
    omega (arith, fill, suc-mul (suc page) pages.size, suc-mul page pages.size)

-- what is written to the front of a buffer leaves its length
pub kept : {A : Type 0} (len : ℕ) (new old items : List A) → len ≡ length items → length new ≡ length old → length old ≡ length items → length (take len (new ++ drop (length new) items)) ≡ length items
kept len new old items is same lent = omega (arith, is, same, lent, length-take len (new ++ drop (length new) items), length-append new (drop (length new) items), length-drop (length new) items)

-- ---- the first flaw

or-some : (first then : Option Flaw) (flaw : Flaw) → first ≡ None → then ≡ Some flaw → option_or first then ≡ Some flaw
or-some None then flaw none some = some
or-some (Some other) then flaw some wrong = absurd (some_none other some)
  where
    some_none : (other : Flaw) → Some other ≡ None → ⊥
    some_none other same = false≢true (ap (λ (flaw : Option Flaw). is_none flaw) same)

some-or : (first then : Option Flaw) (flaw : Flaw) → first ≡ Some flaw → option_or first then ≡ Some flaw
some-or first then flaw is = ap (λ (first : Option Flaw). option_or first then) is

-- the flaw of the first pages is that of all of them
flaw-stays : (pages : Pages) (bytes : List ℕ) (n m : ℕ) (flaw : Flaw) → first_flaw pages bytes n ≡ Some flaw → first_flaw pages bytes (m + n) ≡ Some flaw
flaw-stays pages bytes n zero flaw is = ap (λ k. first_flaw pages bytes k) (none_more n) ∙ is
  where
    none_more : (n : ℕ) → 0 + n ≡ n
    none_more n = omega arith
flaw-stays pages bytes n (suc m) flaw is = ap (λ k. first_flaw pages bytes k) (one_more n m) ∙ some-or _ _ flaw (flaw-stays pages bytes n m flaw is)
  where
    one_more : (n m : ℕ) → suc m + n ≡ suc (m + n)
    one_more n m = omega arith

pub flaw-is : (pages : Pages) (bytes words : List ℕ) (page : ℕ) (flaw : Flaw) → page < page_count pages → AreRead pages bytes page words → flaw_on pages bytes page ≡ Some flaw → flaw_in pages bytes ≡ Some flaw
flaw-is pages bytes words page flaw there read is =
    let left : (page_count pages - suc page) + suc page ≡ page_count pages = omega (arith, there) in
    ap (λ k. first_flaw pages bytes k) (sym left) ∙ flaw-stays pages bytes (suc page) (page_count pages - suc page) flaw (or-some _ _ flaw read.right is)

-- what was written in place of the front of a list is as long as that front
pub same_length : {A : Type 0} (k : ℕ) (new old : List A) → length new ≡ length (take k old) → length (new ++ drop k old) ≡ length old
same_length k new old same = omega (arith, length-append new (drop k old), same, length-take k old, length-drop k old)
