-- Words in lists.
use Rattle.std.proofs.Common.{◌≡◌, ◌<◌, ◌≤◌, ◌+◌, ◌*◌, ◌^◌, ℕ, zero, suc, ℤ, pos, neg_ℤ, ◌+ℤ◌, ◌-ℤ◌, ◌≤ℤ◌, ◌<ℤ◌, List, get_or, arith, sym, ap, subst, ◌∙◌, inl, inr, Option, Some, IfSome, [], ◌∷◌, ◌++◌, take, add-one}
use mathlib.Core.Option.{some, some-ne-none, some-injective}
use lib.ListN.{get_elem?}
use Rattle.std.specs.Int.{int_max}
use Rattle.std.proofs.lemmas.Bool.{cases_lt}
use Rattle.std.proofs.lemmas.Int.{ints, clamps, by_lt_z}
use Rattle.directed_fixed.specs.Bounds.{Bounds, IsWithin, IsWithinUnits}
use Rattle.turn_rule.specs.Games.{kinds_of}
use Rattle.interval_words.specs.Numbers.{value_of, state_of}
use Rattle.interval_words.specs.WordLists.{WordList, AreRight, words_in_list, pair_at, width}
use Rattle.turn_rule.specs.States.{AreWithin}
use Rattle.interval_words.proofs.Places.{state-in}

module _ (bound : ℤ) (list : List ℕ) (state : ℕ) where
  pub crossed-not : get_or list (2 * state + 1) 0 < get_or list (2 * state) 0 → IsWithin bound (pair_at list state) → ⊥
  unfolding value_of
  crossed-not less is = omega (arith, ints, is.in_order)

  pub lower-within : IsWithin bound (pair_at list state) → IsWithinUnits bound (pos (get_or list (2 * state) 0) -ℤ pos (2 ^ 36))
  unfolding value_of
  lower-within is = record { from = is.from; to = omega (arith, ints, is.in_order, is.to) }

  pub upper-within : IsWithin bound (pair_at list state) → IsWithinUnits bound (pos (get_or list (2 * state + 1) 0) -ℤ pos (2 ^ 36))
  unfolding value_of
  upper-within is = record { from = omega (arith, ints, is.in_order, is.from); to = is.to }

  pub both-within : IsWithinUnits bound (pos (get_or list (2 * state) 0) -ℤ pos (2 ^ 36)) → IsWithinUnits bound (pos (get_or list (2 * state + 1) 0) -ℤ pos (2 ^ 36)) → get_or list (2 * state) 0 ≤ get_or list (2 * state + 1) 0 → IsWithin bound (pair_at list state)
  unfolding value_of
  both-within lower upper less = record { from = lower.from; in_order = omega (arith, ints, less); to = upper.to }

  pub pair-is : (lower upper : ℤ) → lower ≡ pos (get_or list (2 * state) 0) -ℤ pos (2 ^ 36) → upper ≡ pos (get_or list (2 * state + 1) 0) -ℤ pos (2 ^ 36) → record { lower = lower; upper = upper } ≡ pair_at list state
  unfolding value_of
  pair-is lower upper low high = λ i. record { lower = low i; upper = high i }

-- a word in range stands for a value
pub value-small : (word : ℕ) → IsWithinUnits (pos (2 ^ 36)) (value_of word) → IsWithinUnits (pos (2 ^ 56)) (pos word -ℤ pos (2 ^ 36))
unfolding value_of
value-small word is = record { from = omega (arith, ints, is.from); to = omega (arith, ints, is.to) }

pub value-read : (word : ℕ) (value : ℤ) → value ≡ pos word -ℤ pos (2 ^ 36) → value ≡ value_of word
unfolding value_of
value-read word value is = is

-- the widest pair of the states before one
pub record AreWidths (list : List ℕ) (states : ℕ) (widest : ℤ) : Type 0 where
  pub each : (n : ℕ) → n < states → width (pair_at list n) ≤ℤ widest
  pub reached : 0 < states → (n : ℕ) × (n < states) × (widest ≡ width (pair_at list n))

-- one state more, whose width isn't negative
pub widths-more : (list : List ℕ) (states : ℕ) (widest wide : ℤ) → AreWidths list states widest → (states ≡ 0 → widest ≡ pos 0) → pos 0 ≤ℤ wide → wide ≡ width (pair_at list states) → AreWidths list (states + 1) (int_max widest wide)
widths-more list states widest wide are none positive is = record {
  each = λ n h. elim (cases_lt n states) [
    | inl before ↦ omega (arith, ints, clamps, are.each n before)
    | inr from ↦ (let same : n ≡ states = omega arith in subst (λ (m : ℕ). width (pair_at list m) ≤ℤ int_max widest wide) (sym same) (subst (λ (z : ℤ). z ≤ℤ int_max widest wide) is (omega (arith, ints, clamps))))
  ];
  reached = λ some. by_lt_z {P = (n : ℕ) × (n < states + 1) × (int_max widest wide ≡ width (pair_at list n))} widest wide here there;
} where
  here : widest <ℤ wide → (n : ℕ) × (n < states + 1) × (int_max widest wide ≡ width (pair_at list n))
  here less = let top : int_max widest wide ≡ wide = omega (arith, ints, clamps) in (states, omega arith, top ∙ is)

  there : wide ≤ℤ widest → (n : ℕ) × (n < states + 1) × (int_max widest wide ≡ width (pair_at list n))
  there more = elim (cases_lt 0 states) [
    | inl before ↦ (let old = are.reached before in let top : int_max widest wide ≡ widest = omega (arith, ints, clamps) in (old.0, omega (arith, old.1), top ∙ old.2))
    | inr past ↦ (let zero_wide : widest ≡ pos 0 = none (omega arith) in let top : int_max widest wide ≡ wide = omega (arith, ints, clamps, zero_wide) in (states, omega arith, top ∙ is))
  ]

-- what stands in an answer
pub found-is : {X : Type 0} (o : Option X) (x y : X) → IfSome o (λ z. z ≡ x) → o ≡ Some y → y ≡ x
found-is o x y is found = subst (λ (r : Option _). IfSome r (λ z. z ≡ x)) found is

-- the difference of both words
pub width-is : (list : List ℕ) (state : ℕ) (pair : Bounds) (lower upper less wide : ℤ) → pair ≡ pair_at list state → lower ≡ pair.lower → upper ≡ pair.upper → less ≡ neg_ℤ lower → wide ≡ upper +ℤ less → wide ≡ width (pair_at list state)
width-is list state pair lower upper less wide is low high negated summed =
    let apart : wide ≡ width pair = omega (arith, ints, low, high, negated, summed) in
    apart ∙ ap width is

-- right words are within the bound in each state
pub right-within : (words : WordList) → AreRight words → AreWithin words.game (words_in_list words)
right-within words right p k state = right.within (state_of (kinds_of words.game) p k) (state-in words.game.checkers (kinds_of words.game) p k state)

-- one element more of a front, and all of them
pub take-one_more : {X : Type 0} (xs : List X) (i : ℕ) (x : X) → get_elem? xs i ≡ some x → take (i + 1) xs ≡ take i xs ++ x ∷ []
take-one_more xs i x at = rw add-one (by_parts xs i at) where
  by_parts : (ys : List _) (n : ℕ) → get_elem? ys n ≡ some x → take (suc n) ys ≡ take n ys ++ x ∷ []
  by_parts [] n e = absurd (some-ne-none x (sym e))
  by_parts (y ∷ ys) zero e = ap (λ z. z ∷ []) (some-injective y x e)
  by_parts (y ∷ ys) (suc n) e = ap (λ zs. y ∷ zs) (by_parts ys n e)
