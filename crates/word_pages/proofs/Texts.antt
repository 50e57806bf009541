-- Words as bytes, both ways.
use Rattle.std.proofs.Common.{◌≡◌, ◌∙◌, ℕ, zero, suc, ◌+◌, ◌*◌, ◌<◌, ◌≤◌, ◌-◌, List, [], ◌∷◌, ◌++◌, length, take, drop, get_or, length-append, refl, sym, ap, ap₂, arith, flat_map}
use Rattle.std.proofs.Math.Nat.{mul-suc}
use Rattle.std.proofs.lemmas.List.{drop-drop, drop-take, take_more}
use Rattle.std.proofs.lemmas.Grind.{flat_map-append}
use Rattle.byteorder.specs.Endian.{big_number, big_bytes}
use Rattle.byteorder.specs.Numbers.{big_from-take, length-bytes_high_first}
use Rattle.word_pages.specs.declared.version.Version.{Version}
use Rattle.word_pages.specs.Words.{word_size, numbers_of, words_in_bytes}

-- so many times one more
pub times_more : (n k : ℕ) → n * suc k ≡ n + n * k
times_more n k = let more = mul-suc n k in omega (arith, more)

-- ---- writing

pub length-cells : (size : ℕ) (words : List ℕ) → length (flat_map (big_bytes size) words) ≡ size * length words
length-cells size [] = omega arith
length-cells size (word ∷ words) =
    let first = length-bytes_high_first size word in
    let rest = length-cells size words in
    let both = length-append (big_bytes size word) (flat_map (big_bytes size) words) in
    let more = times_more size (length words) in
    omega (arith, first, rest, both, more)

-- one word more is written
pub cells_next : (size i : ℕ) (words : List ℕ) → i < length words
    → flat_map (big_bytes size) (take i words) ++ big_bytes size (get_or words i 0) ≡ flat_map (big_bytes size) (take (i + 1) words)
cells_next size i words lt =
    flat_map_one (get_or words i 0) ∙ sym (ap (flat_map (big_bytes size)) (take_more words i 0 lt) ∙ flat_map-append (big_bytes size) (take i words) (get_or words i 0 ∷ []))
  where
    flat_map_one : (word : ℕ) → flat_map (big_bytes size) (take i words) ++ big_bytes size word ≡ flat_map (big_bytes size) (take i words) ++ flat_map (big_bytes size) (word ∷ [])
    flat_map_one word = ap (λ (bytes : List ℕ). flat_map (big_bytes size) (take i words) ++ bytes) (nothing_more (big_bytes size word))
      where
        nothing_more : (bytes : List ℕ) → bytes ≡ bytes ++ []
        nothing_more [] = refl
        nothing_more (byte ∷ bytes) = ap (λ (rest : List ℕ). byte ∷ rest) (nothing_more bytes)

-- ---- reading

pub length-words_of : (version : Version) (n : ℕ) (bytes : List ℕ) → length (words_in_bytes version n bytes) ≡ n
length-words_of version zero bytes = refl
length-words_of version (suc n) bytes = let rest = length-words_of version n (drop (word_size version) bytes) in omega (arith, rest)

-- one word more is read
pub numbers_next : (size n : ℕ) (bytes : List ℕ) → numbers_of size (n + 1) bytes ≡ numbers_of size n bytes ++ big_number size (drop (size * n) bytes) ∷ []
numbers_next size zero bytes =
    let none : size * 0 ≡ 0 = omega arith in
    ap (λ k. big_number size (drop k bytes) ∷ []) (sym none)
numbers_next size (suc n) bytes =
    let more : suc n + 1 ≡ suc (n + 1) = omega arith in
    let on : size + size * n ≡ size * suc n = sym (times_more size n) in
    ap (λ k. numbers_of size k bytes) more
    ∙ ap (λ (words : List ℕ). big_number size bytes ∷ words) (numbers_next size n (drop size bytes))
    ∙ ap (λ (rest : List ℕ). big_number size bytes ∷ (numbers_of size n (drop size bytes) ++ big_number size rest ∷ [])) (drop-drop (size * n) size bytes ∙ ap (λ k. drop k bytes) on)

-- the words of bytes are in their front
pub words_of-take : (version : Version) (n m : ℕ) (bytes : List ℕ) → word_size version * n ≤ m → words_in_bytes version n (take m bytes) ≡ words_in_bytes version n bytes
words_of-take version zero m bytes le = refl
words_of-take version (suc n) m bytes le =
    let size = word_size version in
    let more = times_more size n in
    let parts : size + (m - size) ≡ m = omega (arith, le, more) in
    let rest : drop size (take m bytes) ≡ take (m - size) (drop size bytes) = ap (λ k. drop size (take k bytes)) (sym parts) ∙ drop-take size (m - size) bytes in
    ap₂ (λ (word : ℕ) (words : List ℕ). word ∷ words) (big_from-take 0 size m bytes (omega (arith, le, more)))
    (ap (words_in_bytes version n) rest ∙ words_of-take version n (m - size) (drop size bytes) (omega (arith, le, more)))
