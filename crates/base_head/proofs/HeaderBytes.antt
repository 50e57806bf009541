-- The 64 bytes of a header are those as which the header that they say is written.
use Rattle.std.proofs.Common.{◌≡◌, ◌∙◌, ℕ, zero, suc, ◌+◌, ◌≤◌, Bool, true, false, nat_lt, ◌==◌, if◌then◌else◌, List, [], ◌∷◌, ◌++◌, length, take, drop, None, Some, Option, length-drop, refl, sym, ap, ap₂, arith}
use Rattle.std.proofs.Math.Seq.{take-add}
use Rattle.std.proofs.lemmas.Bool.Decides.{nat_tests}
use Rattle.std.proofs.lemmas.List.{drop-drop}
use Rattle.std.proofs.lemmas.Slice.Eq.{bytes_eq-Decides}
use Rattle.std.specs.Str.{bytes_eq}
use Rattle.byteorder.specs.Endian.{big_bytes, big_number}
use Rattle.cube_actions.specs.Scores.{MatchScore}
use Rattle.word_pages.specs.declared.version.Version.TheVariants.{One, Two, Three}
use Rattle.word_pages.specs.declared.version.Version.{Version}
use Rattle.word_pages.specs.Pages.{AreBytes}
use Rattle.word_pages.proofs.Back.{text-words_of}
use Rattle.base_head.specs.declared.fault.BadFile.{BadFile}
use Rattle.base_head.specs.declared.fields.Fields.{Fields}
use Rattle.base_head.specs.Faults.{first_wrong}
use Rattle.base_head.specs.Headers.{far_field, field, magic, near_field, phase_field, phase_number, spelled, stakes_number, version_number}
use Rattle.base_head.specs.HeaderFaults.{field_checks, fields_of, header_in, is_from_to, name_numbered, number_at, opening_checks, phase_numbered, version_in, version_numbered}
use Rattle.base_head.proofs.Checked.{right-if, right-then}
use Rattle.base_head.proofs.FieldChecks.{all-parts}
use Rattle.base_head.proofs.RightFields.{RightStakes, between, counts-right, last-five, stakes-right}

-- ---- a number and its bytes

pub AreBytes-drop : (n : ℕ) (bytes : List ℕ) → AreBytes bytes → AreBytes (drop n bytes)
AreBytes-drop zero bytes are = are
AreBytes-drop (suc n) [] are = are
AreBytes-drop (suc n) (x ∷ bytes) are = AreBytes-drop n bytes (λ k. are (suc k))

eight-back : (bytes : List ℕ) → 8 ≤ length bytes → AreBytes bytes → big_bytes 8 (big_number 8 bytes) ≡ take 8 bytes
eight-back bytes long are = text-words_of One 1 bytes (omega (arith, long)) are

-- with four zeros in front, four bytes have the same number
four-back : (bytes : List ℕ) → 4 ≤ length bytes → AreBytes bytes → big_bytes 4 (big_number 4 bytes) ≡ take 4 bytes
four-back bytes long are =
    let same : big_number 4 bytes ≡ big_number 8 (0 ∷ 0 ∷ 0 ∷ 0 ∷ bytes) = omega arith in
    ap (big_bytes 4) same ∙ ap (drop 4) (eight-back (0 ∷ 0 ∷ 0 ∷ 0 ∷ bytes) (omega (arith, long)) zeros)
  where
    zeros : AreBytes (0 ∷ 0 ∷ 0 ∷ 0 ∷ bytes)
    zeros zero = omega arith
    zeros (suc zero) = omega arith
    zeros (suc (suc zero)) = omega arith
    zeros (suc (suc (suc zero))) = omega arith
    zeros (suc (suc (suc (suc k)))) = are k

field-back : (at : ℕ) (bytes : List ℕ) → at + 4 ≤ length bytes → AreBytes bytes → field (number_at at 4 bytes) ≡ take 4 (drop at bytes)
field-back at bytes long are = four-back (drop at bytes) (omega (arith, long, length-drop at bytes)) (AreBytes-drop at bytes are)

count-back : (at : ℕ) (bytes : List ℕ) → at + 8 ≤ length bytes → AreBytes bytes → big_bytes 8 (number_at at 8 bytes) ≡ take 8 (drop at bytes)
count-back at bytes long are = eight-back (drop at bytes) (omega (arith, long, length-drop at bytes)) (AreBytes-drop at bytes are)

-- ---- one behind the other

onto : (at n k : ℕ) (first rest bytes : List ℕ) → first ≡ take n (drop at bytes) → rest ≡ take k (drop (at + n) bytes) → first ++ rest ≡ take (n + k) (drop at bytes)
onto at n k first rest bytes one other =
    ap₂ (λ (first : List ℕ) (rest : List ℕ). first ++ rest) one (other ∙ ap (take k) (sym (drop-drop n at bytes))) ∙ sym (take-add n k (drop at bytes))

-- the bytes of these numbers
written : (version checkers stakes near far phase match_length kinds rounds starts positions rest : ℕ) → List ℕ
written version checkers stakes near far phase match_length kinds rounds starts positions rest =
    magic
    ++ field version ++ field checkers ++ field stakes ++ field near ++ field far ++ field phase ++ field match_length ++ field kinds ++ field rounds ++ field starts
    ++ big_bytes 8 positions ++ big_bytes 8 rest

written_as : Fields → List ℕ
written_as f = written f.version f.checkers f.stakes f.near f.far f.phase f.match_length f.kinds f.rounds f.starts f.positions f.rest

written-back : (bytes : List ℕ) → 64 ≤ length bytes → AreBytes bytes → take 8 bytes ≡ magic → written_as (fields_of bytes) ≡ take 64 bytes
unfolding written written_as
written-back bytes long are begins =
    let at = λ (at : ℕ) (room : at ≤ 60). field-back at bytes (omega (arith, long, room)) are in
    let positions = onto 48 8 8 _ _ bytes (count-back 48 bytes (omega (arith, long)) are) (count-back 56 bytes (omega (arith, long)) are) in
    let starts = onto 44 4 16 _ _ bytes (at 44 (omega arith)) positions in
    let rounds = onto 40 4 20 _ _ bytes (at 40 (omega arith)) starts in
    let kinds = onto 36 4 24 _ _ bytes (at 36 (omega arith)) rounds in
    let length = onto 32 4 28 _ _ bytes (at 32 (omega arith)) kinds in
    let phase = onto 28 4 32 _ _ bytes (at 28 (omega arith)) length in
    let far = onto 24 4 36 _ _ bytes (at 24 (omega arith)) phase in
    let near = onto 20 4 40 _ _ bytes (at 20 (omega arith)) far in
    let stakes = onto 16 4 44 _ _ bytes (at 16 (omega arith)) near in
    let checkers = onto 12 4 48 _ _ bytes (at 12 (omega arith)) stakes in
    let version = onto 8 4 52 _ _ bytes (at 8 (omega arith)) checkers in
    ap₂ (λ (first : List ℕ) (rest : List ℕ). first ++ rest) (sym begins) version ∙ sym (take-add 8 56 bytes)

-- ---- the numbers of the header that they say

pub version-back : (fields : Fields) → 1 ≤ fields.version → fields.version ≤ 3 → version_number (version_in fields) ≡ fields.version
version-back fields from to = by_number fields.version from to
  where
    by_number : (n : ℕ) → 1 ≤ n → n ≤ 3 → version_number (version_numbered n) ≡ n
    by_number zero from to = absurd (omega (arith, from))
    by_number (suc zero) from to = refl
    by_number (suc (suc zero)) from to = refl
    by_number (suc (suc (suc zero))) from to = refl
    by_number (suc (suc (suc (suc n)))) from to = absurd (omega (arith, to))

phase-back : (n : ℕ) → n ≤ 2 → phase_number (phase_numbered n) ≡ n
phase-back zero low = refl
phase-back (suc zero) low = refl
phase-back (suc (suc zero)) low = refl
phase-back (suc (suc (suc n))) low = absurd (omega (arith, low))

record NameNumbers (stakes near far phase : ℕ) (score : MatchScore) : Type 0 where
  is : stakes_number (name_numbered stakes score) ≡ stakes
  near_is : near_field (name_numbered stakes score) ≡ near
  far_is : far_field (name_numbered stakes score) ≡ far
  phase_is : phase_field (name_numbered stakes score) ≡ phase

name-back : (stakes near far phase : ℕ) → stakes ≤ 5 → (stakes ≡ 3 → phase ≤ 2) → ((stakes ≡ 3 → ⊥) → (near ≡ 0) × (far ≡ 0) × (phase ≡ 0))
    → NameNumbers stakes near far phase (record { near = near; far = far; phase = phase_numbered phase })
name-back zero near far phase low matched other = let none = other (λ is. absurd (omega (arith, is))) in record { is = refl; near_is = sym none.0; far_is = sym none.1; phase_is = sym none.2 }
name-back (suc zero) near far phase low matched other = let none = other (λ is. absurd (omega (arith, is))) in record { is = refl; near_is = sym none.0; far_is = sym none.1; phase_is = sym none.2 }
name-back (suc (suc zero)) near far phase low matched other = let none = other (λ is. absurd (omega (arith, is))) in record { is = refl; near_is = sym none.0; far_is = sym none.1; phase_is = sym none.2 }
name-back (suc (suc (suc zero))) near far phase low matched other = record { is = refl; near_is = refl; far_is = refl; phase_is = phase-back phase (matched refl) }
name-back (suc (suc (suc (suc zero)))) near far phase low matched other = let none = other (λ is. absurd (omega (arith, is))) in record { is = refl; near_is = sym none.0; far_is = sym none.1; phase_is = sym none.2 }
name-back (suc (suc (suc (suc (suc zero))))) near far phase low matched other = let none = other (λ is. absurd (omega (arith, is))) in record { is = refl; near_is = sym none.0; far_is = sym none.1; phase_is = sym none.2 }
name-back (suc (suc (suc (suc (suc (suc n)))))) near far phase low matched other = absurd (omega (arith, low))

name-in : (fields : Fields) → RightStakes fields → NameNumbers fields.stakes fields.near fields.far fields.phase (record { near = fields.near; far = fields.far; phase = phase_numbered fields.phase })
name-in fields right =
    name-back fields.stakes fields.near fields.far fields.phase (omega (arith, right.last, last-five (version_in fields))) (λ is. (right.matched is).phase) (λ isnt. let none = right.other isnt in (none.near, none.far, none.phase))

some-version : (oldest : Version) → 1 ≤ version_number oldest
some-version One = omega arith
some-version Two = omega arith
some-version Three = omega arith

-- the version is one of those that are read
pub version-right : (oldest : Version) (fields : Fields) → first_wrong (field_checks oldest fields) ≡ None → (version_number oldest ≤ fields.version) × (fields.version ≤ 3)
version-right oldest fields none =
    let parts = all-parts oldest fields none in between (version_number oldest) 3 fields.version (right-if (is_from_to (version_number oldest) 3 fields.version) _ parts.0)

pub version-numbers : (oldest : Version) (fields : Fields) → first_wrong (field_checks oldest fields) ≡ None → version_number (version_in fields) ≡ fields.version
version-numbers oldest fields none =
    let from_to = version-right oldest fields none in version-back fields (omega (arith, some-version oldest, from_to.0)) from_to.1

spelled-as : (oldest : Version) (fields : Fields) → first_wrong (field_checks oldest fields) ≡ None → spelled (header_in fields) ≡ written_as fields
unfolding written written_as
spelled-as oldest fields none =
    let parts = all-parts oldest fields none in
    let version = version-numbers oldest fields none in
    let name = name-in fields (stakes-right fields parts.2) in
    let rest : 0 ≡ fields.rest = sym (counts-right fields parts.3).rest in
    λ i. written (version i) fields.checkers (name.is i) (name.near_is i) (name.far_is i) (name.phase_is i) fields.match_length fields.kinds fields.rounds fields.starts fields.positions (rest i)

-- the bytes of a header are those as which the header that they say is written
pub spelled-back : (oldest : Version) (bytes : List ℕ) → 64 ≤ length bytes → AreBytes bytes → take 8 bytes ≡ magic → first_wrong (field_checks oldest (fields_of bytes)) ≡ None → spelled (header_in (fields_of bytes)) ≡ take 64 bytes
spelled-back oldest bytes long are begins none = spelled-as oldest (fields_of bytes) none ∙ written-back bytes long are begins

-- ---- where nothing is wrong with the first ones

pub wrong-then : (wrong : Bool) (bad : BadFile) (rest : Option BadFile) → (if wrong then Some bad else rest) ≡ None → (wrong ≡ false) × (rest ≡ None)
wrong-then false bad rest none = (refl, none)
wrong-then true bad rest none = absurd (grind (arith, none))

pub opening-right : (size : ℕ) (bytes : List ℕ) → first_wrong (opening_checks size bytes) ≡ None → (64 ≤ size) × (take 8 bytes ≡ magic)
opening-right size bytes none =
    let a = wrong-then (nat_lt size 64) _ _ none in
    let b = right-then (bytes_eq (take 8 bytes) magic) _ _ a.1 in
    (not_less size 64 a.0, (bytes_eq-Decides (take 8 bytes) magic).0 b.0)
  where
    not_less : (a b : ℕ) → nat_lt a b ≡ false → b ≤ a
    not_less a b is = grind (arith, nat_tests)
