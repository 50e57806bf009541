-- The first flaw of a page.
use Rattle.std.proofs.Common.{◌≡◌, ◌∙◌, ◌⊎◌, inl, inr, ℕ, ◌+◌, ◌*◌, ◌≤◌, ◌<◌, Bool, true, false, List, length, take, Option, None, Some, ℤ, refl, sym, ap, ap₂, arith, nat_le}
use Rattle.std.proofs.lemmas.Bool.{cases_lt, false≢true, le-leb}
use Rattle.std.proofs.lemmas.Bool.Decides.{leb_tells}
use Rattle.std.proofs.lemmas.List.{take_all, take-take, length-take-le}
use Rattle.std.specs.Option.{option_or}
use Rattle.hyper_outside.specs.declared.outside.PageFault.{PageFault}
use Rattle.hyper_outside.specs.declared.outside.PageFault.TheVariants.{Short, PageDigest}
use Rattle.word_pages.specs.declared.version.Version.{Version}
use Rattle.word_pages.specs.declared.flaws.Flaw.{Flaw}
use Rattle.word_pages.specs.Words.{word_size, words_in_bytes}
use Rattle.word_pages.specs.Sealed.{is_sealed_under}
use Rattle.word_pages.specs.Flaws.{flaw_unless, pairs_flaw}
use Rattle.word_pages.specs.Pages.{page_size, page_flaw}
use Rattle.word_pages.proofs.Texts.{words_of-take}

pub no_flaw : (well : Bool) (fault : PageFault) (at : ℕ) → well ≡ true → flaw_unless well fault at ≡ None
no_flaw true fault at right = refl
no_flaw false fault at right = absurd (false≢true right)

-- what is wrong with a page that is long enough
pub long-flaw : (version : Version) (binding : List ℕ) (bound : ℤ) (n at : ℕ) (bytes : List ℕ) → page_size version n ≤ length bytes
    → page_flaw version binding bound n at bytes ≡ option_or (flaw_unless (is_sealed_under binding (take (page_size version n) bytes)) PageDigest (at + word_size version * n)) (pairs_flaw version bound at (words_in_bytes version n bytes))
long-flaw version binding bound n at bytes long =
    ap (λ (flaw : Option Flaw). option_or flaw (option_or (flaw_unless (is_sealed_under binding (take (page_size version n) bytes)) PageDigest (at + word_size version * n)) (pairs_flaw version bound at (words_in_bytes version n bytes))))
    (no_flaw (nat_le (page_size version n) (length bytes)) Short (at + length bytes) (le-leb (page_size version n) (length bytes) long))

not_long : (size count : ℕ) → count < size → nat_le size count ≡ false
not_long size count short = elim (leb_tells size count) [
  | inl long ↦ absurd (omega (arith, short, long.1))
  | inr less ↦ less.0
]

-- bytes that end before the page's end
pub short-flaw : (version : Version) (binding : List ℕ) (bound : ℤ) (n at : ℕ) (bytes : List ℕ) → length bytes < page_size version n
    → Some (record { fault = Short; at = at + length bytes }) ≡ page_flaw version binding bound n at bytes
short-flaw version binding bound n at bytes short =
    sym (ap (λ (flaw : Option Flaw). option_or flaw (option_or (flaw_unless (is_sealed_under binding (take (page_size version n) bytes)) PageDigest (at + word_size version * n)) (pairs_flaw version bound at (words_in_bytes version n bytes))))
    (ap (λ (well : Bool). flaw_unless well Short (at + length bytes)) (not_long (page_size version n) (length bytes) short)))

-- a page with another digest
pub digest-flaw : (version : Version) (binding : List ℕ) (bound : ℤ) (n at : ℕ) (bytes : List ℕ) → page_size version n ≤ length bytes → is_sealed_under binding (take (page_size version n) bytes) ≡ false
    → Some (record { fault = PageDigest; at = at + word_size version * n }) ≡ page_flaw version binding bound n at bytes
digest-flaw version binding bound n at bytes long wrong =
    sym (long-flaw version binding bound n at bytes long
    ∙ ap (λ (well : Bool). option_or (flaw_unless well PageDigest (at + word_size version * n)) (pairs_flaw version bound at (words_in_bytes version n bytes))) wrong)

-- a page with its digest
pub sealed-flaw : (version : Version) (binding : List ℕ) (bound : ℤ) (n at : ℕ) (bytes : List ℕ) → page_size version n ≤ length bytes → is_sealed_under binding (take (page_size version n) bytes) ≡ true
    → pairs_flaw version bound at (words_in_bytes version n bytes) ≡ page_flaw version binding bound n at bytes
sealed-flaw version binding bound n at bytes long right =
    sym (long-flaw version binding bound n at bytes long
    ∙ ap (λ (well : Bool). option_or (flaw_unless well PageDigest (at + word_size version * n)) (pairs_flaw version bound at (words_in_bytes version n bytes))) right)

-- bytes behind a page don't matter
pub page_flaw-take : (version : Version) (binding : List ℕ) (bound : ℤ) (n at : ℕ) (bytes : List ℕ) → page_flaw version binding bound n at (take (page_size version n) bytes) ≡ page_flaw version binding bound n at bytes
page_flaw-take version binding bound n at bytes = by_length (cases_lt (length bytes) (page_size version n))
  where
    by_length : (length bytes < page_size version n) ⊎ (page_size version n ≤ length bytes) → page_flaw version binding bound n at (take (page_size version n) bytes) ≡ page_flaw version binding bound n at bytes
    by_length (inl short) = ap (page_flaw version binding bound n at) (take_all (page_size version n) bytes (omega (arith, short)))
    by_length (inr long) =
        let size = page_size version n in
        let count = length-take-le size bytes long in
        long-flaw version binding bound n at (take size bytes) (omega (arith, count))
        ∙ ap₂ (λ (page : List ℕ) (words : List ℕ). option_or (flaw_unless (is_sealed_under binding page) PageDigest (at + word_size version * n)) (pairs_flaw version bound at words)) (take-take size size bytes (omega arith)) (words_of-take version n size bytes (omega arith))
        ∙ sym (long-flaw version binding bound n at bytes long)
