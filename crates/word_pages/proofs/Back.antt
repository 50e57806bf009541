-- Words and their bytes are each other's.
use Rattle.std.proofs.Common.{◌≡◌, ◌∙◌, ℕ, zero, suc, ◌+◌, ◌*◌, ◌/◌, ◌%◌, ◌^◌, ◌<◌, ◌≤◌, All, List, [], ◌∷◌, ◌++◌, length, take, drop, slice_index_or, length-drop, append_assoc, refl, sym, ap, ap₂, arith}
use Rattle.std.proofs.Math.Nat.{add-mul, add_assoc, div-one, mul_assoc, pow-succ'}
use Rattle.std.proofs.Math.Seq.{take-add, drop-append_seam}
use Rattle.std.proofs.lemmas.Nat.{div-mul-add}
use Rattle.std.specs.Int.{byte_at, bytes_high_first}
use Rattle.byteorder.specs.Endian.{big_from, big_number, big_bytes}
use Rattle.byteorder.specs.Numbers.{big_from-cons, big_from-lt, big_number-reads_back, length-bytes_high_first}
use Rattle.word_pages.specs.declared.version.Version.{Version}
use Rattle.word_pages.specs.Words.{word_size, Fits, word_text, words_bytes, words_in_bytes}
use Rattle.word_pages.specs.Pages.{AreBytes}
use Rattle.word_pages.proofs.Texts.{times_more}

-- ---- a number and its bytes

byte_at-pow : (k x : ℕ) → byte_at k x ≡ x / 256 ^ k % 256
byte_at-pow zero x = ap (λ (y : ℕ). y % 256) (sym (div-one x))
byte_at-pow (suc k) x = refl

digits : (n a : ℕ) (bytes : List ℕ) → n ≤ length bytes → AreBytes bytes → bytes_high_first n (a * 256 ^ n + big_from 0 n bytes) ≡ take n bytes
digits zero a bytes long are = refl
digits (suc n) a [] long are = absurd (omega arith)
digits (suc n) a (x ∷ bytes) long are =
    let rest : AreBytes bytes = λ k. are (suc k) in
    let moved : big_from 1 n (x ∷ bytes) ≡ big_from 0 n bytes = big_from-cons 0 n x bytes in
    let low = big_from-lt 0 n bytes rest in
    let power : 256 ^ (suc n) ≡ 256 * 256 ^ n = pow-succ' 256 n in
    let number : a * 256 ^ (suc n) + (x * 256 ^ n + big_from 1 n (x ∷ bytes)) ≡ (a * 256 + x) * 256 ^ n + big_from 0 n bytes =
    ap₂ (λ (p q : ℕ). a * p + (x * 256 ^ n + q)) power moved
    ∙ ap (λ (p : ℕ). p + (x * 256 ^ n + big_from 0 n bytes)) (sym (mul_assoc a 256 (256 ^ n)))
    ∙ sym (add_assoc (a * 256 * 256 ^ n) (x * 256 ^ n) (big_from 0 n bytes))
    ∙ ap (λ (p : ℕ). p + big_from 0 n bytes) (sym (add-mul (a * 256) x (256 ^ n))) in
    let first : byte_at n ((a * 256 + x) * 256 ^ n + big_from 0 n bytes) ≡ x =
    byte_at-pow n ((a * 256 + x) * 256 ^ n + big_from 0 n bytes) ∙ ap (λ (q : ℕ). q % 256) (div-mul-add (a * 256 + x) (256 ^ n) (big_from 0 n bytes) low) ∙ omega (arith, are 0) in
    ap (λ (m : ℕ). bytes_high_first (suc n) m) number
    ∙ ap₂ (λ (b : ℕ) (bs : List ℕ). b ∷ bs) first (digits n (a * 256 + x) bytes (omega arith) rest)

-- the bytes of the number in the first n bytes are these
bytes_back : (n : ℕ) (bytes : List ℕ) → n ≤ length bytes → AreBytes bytes → big_bytes n (big_number n bytes) ≡ take n bytes
bytes_back n bytes long are =
    let none : big_from 0 n bytes ≡ 0 * 256 ^ n + big_from 0 n bytes = omega arith in
    ap (bytes_high_first n) none ∙ digits n 0 bytes long are

-- ---- words

are_bytes-drop : (n : ℕ) (bytes : List ℕ) → AreBytes bytes → AreBytes (drop n bytes)
are_bytes-drop zero bytes are = are
are_bytes-drop (suc n) [] are = are
are_bytes-drop (suc n) (x ∷ bytes) are = are_bytes-drop n bytes (λ k. are (suc k))

-- the words of bytes are written as these bytes
pub text-words_of : (version : Version) (n : ℕ) (bytes : List ℕ) → word_size version * n ≤ length bytes → AreBytes bytes → words_bytes version (words_in_bytes version n bytes) ≡ take (word_size version * n) bytes
text-words_of version zero bytes long are =
    let none : 0 ≡ word_size version * 0 = omega arith in ap (λ k. take k bytes) none
text-words_of version (suc n) bytes long are =
    let size = word_size version in
    let more = times_more size n in
    ap₂ (λ (first rest : List ℕ). first ++ rest) (bytes_back size bytes (omega (arith, long, more)) are)
    (text-words_of version n (drop size bytes) (omega (arith, long, more, length-drop size bytes)) (are_bytes-drop size bytes are))
    ∙ sym (take-add size (size * n) bytes)
    ∙ ap (λ k. take k bytes) (sym more)

-- words are read from their bytes
pub words_of-text : (version : Version) (words rest : List ℕ) → All (Fits version) words → words_in_bytes version (length words) (words_bytes version words ++ rest) ≡ words
words_of-text version [] rest fit = refl
words_of-text version (word ∷ words) rest fit =
    let size = word_size version in
    let all = words_bytes version words ++ rest in
    let parts : words_bytes version (word ∷ words) ++ rest ≡ word_text version word ++ all = append_assoc (word_text version word) (words_bytes version words) rest in
    let behind : drop size (word_text version word ++ all) ≡ all = ap (λ k. drop k (word_text version word ++ all)) (sym (length-bytes_high_first size word)) ∙ drop-append_seam (word_text version word) all in
    ap (words_in_bytes version (suc (length words))) parts
    ∙ ap₂ (λ (word : ℕ) (words : List ℕ). word ∷ words) (big_number-reads_back size word all (fit 0 0 (omega arith)))
    (ap (words_in_bytes version (length words)) behind ∙ words_of-text version words rest (λ k d lt. fit (suc k) d (omega (arith, lt))))

-- words that were read fit
pub words_of-fit : (version : Version) (n : ℕ) (bytes : List ℕ) → AreBytes bytes → All (Fits version) (words_in_bytes version n bytes)
words_of-fit version n bytes are = λ k d. each k n bytes are d
  where
    each : (k n : ℕ) (bytes : List ℕ) → AreBytes bytes → (d : ℕ) → k < length (words_in_bytes version n bytes) → Fits version (slice_index_or (words_in_bytes version n bytes) k d)
    each k zero bytes are d lt = absurd (omega (arith, lt))
    each zero (suc n) bytes are d lt = big_from-lt 0 (word_size version) bytes are
    each (suc k) (suc n) bytes are d lt = each k n (drop (word_size version) bytes) (are_bytes-drop (word_size version) bytes are) d (omega (arith, lt))
