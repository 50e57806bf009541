-- Pages that are bound to their file and their place.
use Rattle.std.proofs.Common.{◌≡◌, ◌≢◌, ◌∙◌, ℕ, ◌+◌, ◌-◌, ◌*◌, ◌^◌, ◌<◌, ◌≤◌, true, List, [], ◌++◌, length, take, drop, None, ℤ, nat_le, sym, ap, ap₂, subst, arith}
use Rattle.std.proofs.Math.Seq.{take-append_seam, drop-append_seam}
use Rattle.std.proofs.lemmas.Bool.Decides.{nat_tests}
use Rattle.std.proofs.lemmas.List.{append_cancel_left, append_cancel_right, length-take-le, take-take}
use Rattle.hyper_outside.specs.declared.outside.PageFault.TheVariants.{Short, PageDigest}
use Rattle.byteorder.specs.Endian.{big_bytes, big_number}
use Rattle.byteorder.specs.Numbers.{big_number-reads_back}
use Rattle.word_pages.specs.declared.version.Version.{Version}
use Rattle.word_pages.specs.declared.version.Version.TheVariants.{Three}
use Rattle.word_pages.specs.Words.{word_size}
use Rattle.word_pages.specs.Sealed.{AreTwins, binding_of, is_sealed_under}
use Rattle.word_pages.specs.Pages.{page_size, page_flaw}
use Rattle.word_pages.proofs.Seals.{is_sealed-exactly}
use Rattle.word_pages.proofs.Within.{none_or, is_well}

-- bytes that are sealed under two bindings
pub sealed-twice : (binding other bytes : List ℕ) → is_sealed_under binding bytes ≡ true → is_sealed_under other bytes ≡ true → binding ≢ other
    → AreTwins (binding ++ take (length bytes - 32) bytes) (other ++ take (length bytes - 32) bytes)
sealed-twice binding other bytes one two differ =
    let front = take (length bytes - 32) bytes in
    record {
      differ = λ same. differ (append_cancel_right binding other front same);
      same = append_cancel_left front _ _ (sym ((is_sealed-exactly binding bytes).0 one) ∙ (is_sealed-exactly other bytes).0 two);
    }

is_long : (size count : ℕ) → nat_le size count ≡ true → size ≤ count
is_long size count is = grind (arith, nat_tests)

-- a page without a flaw is long enough and sealed
pub page-sealed : (version : Version) (binding : List ℕ) (bound : ℤ) (n at : ℕ) (bytes : List ℕ) → page_flaw version binding bound n at bytes ≡ None
    → (page_size version n ≤ length bytes) × (is_sealed_under binding (take (page_size version n) bytes) ≡ true)
page-sealed version binding bound n at bytes none =
    let size = page_size version n in
    let outer = none_or _ _ none in
    let inner = none_or _ _ outer.1 in (
      is_long size (length bytes) (is_well (nat_le size (length bytes)) Short (at + length bytes) outer.0),
      is_well (is_sealed_under binding (take size bytes)) PageDigest (at + word_size version * n) inner.0,
    )

-- one page that has no flaw for two bindings
pub page-twice : (version : Version) (binding other : List ℕ) (bound other_bound : ℤ) (n at other_at : ℕ) (bytes : List ℕ)
    → page_flaw version binding bound n at bytes ≡ None → page_flaw version other other_bound n other_at bytes ≡ None → binding ≢ other
    → AreTwins (binding ++ take (word_size version * n) bytes) (other ++ take (word_size version * n) bytes)
page-twice version binding other bound other_bound n at other_at bytes none none_too differ =
    let size = page_size version n in
    let first = page-sealed version binding bound n at bytes none in
    let second = page-sealed version other other_bound n other_at bytes none_too in
    let long = length-take-le size bytes first.0 in
    let count : length (take size bytes) - 32 ≡ word_size version * n = omega (arith, long) in
    let front : take (length (take size bytes) - 32) (take size bytes) ≡ take (word_size version * n) bytes =
    ap (λ k. take k (take size bytes)) count ∙ take-take (word_size version * n) size bytes (omega arith) in
    subst (λ (pairs : List ℕ). AreTwins (binding ++ pairs) (other ++ pairs)) front (sealed-twice binding other (take size bytes) first.1 second.1 differ)

number-one : (number other_number : ℕ) → number < 2 ^ 64 → other_number < 2 ^ 64 → big_bytes 8 number ≡ big_bytes 8 other_number → number ≡ other_number
number-one number other_number low other_low same =
    sym (big_number-reads_back 8 number [] low)
    ∙ ap (λ (bytes : List ℕ). big_number 8 (bytes ++ [])) same
    ∙ big_number-reads_back 8 other_number [] other_low

-- the same binding is of the same digest and the same number
pub binding-one : (digest other : List ℕ) (number other_number : ℕ) → length digest ≡ length other → number < 2 ^ 64 → other_number < 2 ^ 64
    → binding_of Three digest number ≡ binding_of Three other other_number → (digest ≡ other) × (number ≡ other_number)
binding-one digest other number other_number long low other_low same =
    let front : digest ≡ other =
    sym (take-append_seam digest (big_bytes 8 number)) ∙ ap₂ (λ (k : ℕ) (bytes : List ℕ). take k bytes) long same ∙ take-append_seam other (big_bytes 8 other_number) in
    let back : big_bytes 8 number ≡ big_bytes 8 other_number =
    sym (drop-append_seam digest (big_bytes 8 number)) ∙ ap₂ (λ (k : ℕ) (bytes : List ℕ). drop k bytes) long same ∙ drop-append_seam other (big_bytes 8 other_number) in
    (front, number-one number other_number low other_low back)
