-- The pairs of the starts and their words are each other's.
use Rattle.std.proofs.Common.{◌≡◌, ◌∙◌, ℕ, zero, suc, ◌+◌, ◌*◌, ℤ, pos, negsuc, neg_ℤ, nat_abs, ◌+ℤ◌, ◌-ℤ◌, ◌≤ℤ◌, All, List, [], ◌∷◌, length, slice_index, refl, sym, ap, ap₂, subst, arith}
use Rattle.std.proofs.lemmas.Int.{ints}
use Rattle.directed_fixed.specs.Bounds.{Bounds, IsWithin}
use Rattle.directed_fixed.specs.declared.word.TheConstants.{WORD_OFFSET}
use Rattle.cube_actions.specs.Stakes.{point_units}
use Rattle.word_pages.specs.Flaws.{LieWithin, pair_in_words, unpacked}
use Rattle.base_head.specs.Fronts.{pairs_of_words, counted_word, words_of_pairs}

-- ---- one word

word-back : (word : ℕ) → counted_word (unpacked word) ≡ word
word-back word = ap nat_abs (on (pos word) WORD_OFFSET)
  where
    on : (a b : ℤ) → (a -ℤ b) +ℤ b ≡ a
    on a b = omega (arith, ints)

value-back : (value : ℤ) → neg_ℤ WORD_OFFSET ≤ℤ value → unpacked (counted_word value) ≡ value
value-back value low = ap (λ (z : ℤ). z -ℤ WORD_OFFSET) (same (value +ℤ WORD_OFFSET) (from value WORD_OFFSET low)) ∙ on value WORD_OFFSET
  where
    same : (z : ℤ) → pos 0 ≤ℤ z → pos (nat_abs z) ≡ z
    same (pos n) le = refl
    same (negsuc n) le = absurd le.le

    from : (a b : ℤ) → neg_ℤ b ≤ℤ a → pos 0 ≤ℤ (a +ℤ b)
    from a b le = omega (arith, ints)

    on : (a b : ℤ) → (a +ℤ b) -ℤ b ≡ a
    on a b = omega (arith, ints)

-- ---- pairs

-- an even number of words are those of their pairs
pub words-back : (n : ℕ) (words : List ℕ) → length words ≡ 2 * n → words_of_pairs (pairs_of_words words) ≡ words
words-back zero [] is = refl
words-back zero (word ∷ words) is = absurd (omega (arith, is))
words-back (suc n) [] is = absurd (omega (arith, is))
words-back (suc n) (word ∷ []) is = absurd (omega (arith, is))
words-back (suc n) (lower ∷ upper ∷ words) is =
    let rest = words-back n words (omega (arith, is)) in
    λ i. word-back lower i ∷ word-back upper i ∷ rest i

later : (a b c : ℤ) → a ≤ℤ b → b ≤ℤ c → a ≤ℤ c
later a b c h k = omega (arith, ints)

lower-back : (pair : Bounds) → IsWithin (point_units 1) pair → unpacked (counted_word pair.lower) ≡ pair.lower
lower-back pair within = value-back pair.lower (later _ _ _ (record { le = tt }) within.from)

upper-back : (pair : Bounds) → IsWithin (point_units 1) pair → unpacked (counted_word pair.upper) ≡ pair.upper
upper-back pair within = value-back pair.upper (later _ _ _ (later _ _ _ (record { le = tt }) within.from) within.in_order)

pair-back : (pair : Bounds) → IsWithin (point_units 1) pair → record { lower = unpacked (counted_word pair.lower); upper = unpacked (counted_word pair.upper) } ≡ pair
pair-back pair within = let lower = lower-back pair within in let upper = upper-back pair within in λ i. record { lower = lower i; upper = upper i }

-- pairs within a point are those of their words
pub pairs-back : (pairs : List Bounds) → All (IsWithin (point_units 1)) pairs → pairs_of_words (words_of_pairs pairs) ≡ pairs
pairs-back [] within = refl
pairs-back (pair ∷ pairs) within =
    let first = pair-back pair (within 0 pair (omega arith)) in
    let rest = pairs-back pairs (λ k d lt. within (suc k) d (omega (arith, lt))) in
    λ i. first i ∷ rest i

-- ---- within the bound

pair_next : (lower upper : ℕ) (words : List ℕ) (k : ℕ) → pair_in_words (lower ∷ upper ∷ words) (suc k) ≡ pair_in_words words k
pair_next lower upper words k =
    let low : 2 * suc k ≡ suc (suc (2 * k)) = omega arith in
    let high : 2 * suc k + 1 ≡ suc (suc (2 * k + 1)) = omega arith in
    ap₂ (λ (i j : ℕ). record { lower = unpacked (slice_index (lower ∷ upper ∷ words) i); upper = unpacked (slice_index (lower ∷ upper ∷ words) j) }) low high

pub pairs-within : (words : List ℕ) → LieWithin (point_units 1) words → All (IsWithin (point_units 1)) (pairs_of_words words)
pairs-within [] within = λ k d lt. absurd (omega (arith, lt))
pairs-within (word ∷ []) within = λ k d lt. absurd (omega (arith, lt))
pairs-within (lower ∷ upper ∷ words) within = each (pairs-within words (λ k lt. subst (IsWithin (point_units 1)) (pair_next lower upper words k) (within (suc k) (omega (arith, lt)))))
  where
    each : All (IsWithin (point_units 1)) (pairs_of_words words) → All (IsWithin (point_units 1)) (pairs_of_words (lower ∷ upper ∷ words))
    each rest zero d lt = within 0 (omega arith)
    each rest (suc k) d lt = rest k d (omega (arith, lt))

pub words-within : (pairs : List Bounds) → All (IsWithin (point_units 1)) pairs → LieWithin (point_units 1) (words_of_pairs pairs)
words-within [] within = λ k lt. absurd (omega (arith, lt))
words-within (pair ∷ pairs) within = each (words-within pairs (λ k d lt. within (suc k) d (omega (arith, lt))))
  where
    each : LieWithin (point_units 1) (words_of_pairs pairs) → LieWithin (point_units 1) (words_of_pairs (pair ∷ pairs))
    each rest zero lt = let first = within 0 pair (omega arith) in subst (IsWithin (point_units 1)) (sym (pair-back pair first)) first
    each rest (suc k) lt = subst (IsWithin (point_units 1)) (sym (pair_next (counted_word pair.lower) (counted_word pair.upper) (words_of_pairs pairs) k)) (rest k (omega (arith, lt)))
