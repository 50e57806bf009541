-- Bytes and their digest.
use Rattle.std.proofs.Common.{◌≡◌, ◌∙◌, ℕ, ◌+◌, ◌-◌, ◌<◌, ◌≤◌, Bool, true, false, List, ◌++◌, length, take, drop, refl, sym, ap, ap₂, arith, length-append}
use Rattle.std.proofs.lemmas.Slice.Eq.{bytes_eq-Decides}
use Rattle.std.proofs.lemmas.List.{take-append-drop, length-take-le}
use Rattle.std.proofs.Math.Seq.{drop-append_seam}
use Rattle.std.specs.Str.{bytes_eq}
use Rattle.sha2.specs.Sha256.{sha256}
use Rattle.sha2.proofs.Facts256.{length-sha256}
use Rattle.word_pages.specs.Sealed.{sealed_under, is_sealed_under}

pub length-sealed : (binding bytes : List ℕ) → length (sealed_under binding bytes) ≡ length bytes + 32
length-sealed binding bytes = length-append bytes (sha256 (binding ++ bytes)) ∙ ap (λ k. length bytes + k) (length-sha256 (binding ++ bytes))

-- two tests that answer true together
pub same_answer : (a b : Bool) → (a ≡ true → b ≡ true) → (b ≡ true → a ≡ true) → a ≡ b
same_answer true true on back = refl
same_answer true false on back = sym (on refl)
same_answer false true on back = back refl
same_answer false false on back = refl

never : (a : Bool) → (a ≡ true → ⊥) → false ≡ a
never true wrong = absurd (wrong refl)
never false wrong = refl

-- bytes end with the digest of the binding and their front exactly where they are that front, sealed
pub digest-is : (binding : List ℕ) (n : ℕ) (bytes : List ℕ) → n ≤ length bytes → bytes_eq (drop n bytes) (sha256 (binding ++ take n bytes)) ≡ bytes_eq bytes (sealed_under binding (take n bytes))
digest-is binding n bytes le =
    let front = take n bytes in
    let parts = take-append-drop n bytes in
    let back = bytes_eq-Decides (drop n bytes) (sha256 (binding ++ front)) in
    let whole = bytes_eq-Decides bytes (sealed_under binding front) in
    let count : n ≡ length front = sym (length-take-le n bytes le) in
    same_answer _ _
    (λ right. whole.1 (sym parts ∙ ap (λ (digest : List ℕ). front ++ digest) (back.0 right)))
    (λ right. back.1 (ap₂ (λ (k : ℕ) (bytes : List ℕ). drop k bytes) count (whole.0 right) ∙ drop-append_seam front (sha256 (binding ++ front))))

-- fewer than 32 bytes aren't sealed
pub short-not_sealed : (binding bytes front : List ℕ) → length bytes < 32 → bytes ≡ sealed_under binding front → ⊥
short-not_sealed binding bytes front short same =
    let long = ap (λ (bytes : List ℕ). length bytes) same ∙ length-sealed binding front in omega (arith, short, long)

pub short-is : (binding bytes : List ℕ) → length bytes < 32 → false ≡ is_sealed_under binding bytes
short-is binding bytes short =
    let front = take (length bytes - 32) bytes in
    never (is_sealed_under binding bytes) (λ right. short-not_sealed binding bytes front short ((bytes_eq-Decides bytes (sealed_under binding front)).0 right))

-- the test is true exactly of sealed bytes
pub is_sealed-exactly : (binding bytes : List ℕ) → (is_sealed_under binding bytes ≡ true → bytes ≡ sealed_under binding (take (length bytes - 32) bytes)) × (bytes ≡ sealed_under binding (take (length bytes - 32) bytes) → is_sealed_under binding bytes ≡ true)
is_sealed-exactly binding bytes =
    let same = bytes_eq-Decides bytes (sealed_under binding (take (length bytes - 32) bytes)) in
    (λ right. same.0 right, λ right. same.1 right)
