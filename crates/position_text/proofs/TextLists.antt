-- Tests of all the elements of a list, and lists that are taken apart from the front.
use Rattle.std.proofs.Common.{◌≡◌, ◌≤◌, ◌<◌, ◌+◌, ℕ, zero, suc, Bool, true, false, ◌&&◌, ◌||◌, inl, inr, All, take, subst, MatchBool, List, [], ◌∷◌, ◌++◌, length, refl, arith}
use Rattle.std.proofs.lemmas.Bool.{cases_lt}
use Rattle.std.specs.List.{list_all, list_any, range_with_len, AllWithin, HoldsAt}

pub and-false : (a : Bool) → (a && false) ≡ false
and-false true = refl
and-false false = refl

all_pass : {X : Type 0} (p : X → Bool) (xs : List X) → AllWithin (λ x. p x ≡ true) xs 0 (length xs) → list_all p xs ≡ true
all_pass p [] h = refl
all_pass p (x ∷ xs) h = rw (h 0 x (omega arith) (omega arith)) (all_pass p xs (λ k d low high. h (suc k) d (omega arith) (omega arith)))

one_fails : {X : Type 0} (p : X → Bool) (xs : List X) (k : ℕ) → k < length xs → HoldsAt (λ x. p x ≡ false) xs k → list_all p xs ≡ false
one_fails p [] k low h = absurd (omega arith)
one_fails p (x ∷ xs) zero low h = rw (h x) refl
one_fails p (x ∷ xs) (suc k) low h = rw (one_fails p xs k (omega arith) h) (and-false (p x))

pub list_all-told : {X : Type 0} (p : X → Bool) (xs : List X) (r : Bool) → MatchBool r (AllWithin (λ x. p x ≡ true) xs 0 (length xs)) ((k : ℕ) × (k < length xs) × HoldsAt (λ x. p x ≡ false) xs k) → list_all p xs ≡ r
list_all-told p xs true h = all_pass p xs h
list_all-told p xs false h = one_fails p xs h.0 h.1 h.2

abbrev pub Each : {X : Type 0} → (X → Type 0) → List X → Type 0
Each P [] = Unit {0}
Each P (x ∷ xs) = P x × Each P xs

pub Each-append : {X : Type 0} (P : X → Type 0) (xs ys : List X) → Each P xs → Each P ys → Each P (xs ++ ys)
Each-append P [] ys h k = k
Each-append P (x ∷ xs) ys h k = (h.0, Each-append P xs ys h.1 k)

pub Each-take : {X : Type 0} (P : X → Type 0) (n : ℕ) (xs : List X) → Each P xs → Each P (take n xs)
Each-take P zero xs h = tt
Each-take P (suc n) [] h = tt
Each-take P (suc n) (x ∷ xs) h = (h.0, Each-take P n xs h.1)

pub Each-at : {X : Type 0} (P : X → Type 0) (xs : List X) → Each P xs → All P xs
Each-at P [] h k d low = absurd (omega arith)
Each-at P (x ∷ xs) h zero d low = h.0
Each-at P (x ∷ xs) h (suc k) d low = Each-at P xs h.1 k d (omega arith)

either-false : (a b : Bool) → (a || b) ≡ false → (a ≡ false) × (b ≡ false)
either-false true b e = absurd (cc)
either-false false b e = (refl, e)

-- no number of a range passes a test that none passes
pub none-in-range : (test : ℕ → Bool) (a n i : ℕ) → list_any test (range_with_len a n) ≡ false → a ≤ i → i < a + n → test i ≡ false
none-in-range test a zero i e low high = absurd (omega arith)
none-in-range test a (suc n) i e low high =
    let both = either-false (test a) (list_any test (range_with_len (a + 1) n)) e in
    elim (cases_lt a i) [
      | inl later ↦ none-in-range test (a + 1) n i both.1 (omega arith) (omega arith)
      | inr here ↦ (let same : a ≡ i = omega arith in subst (λ j. test j ≡ false) same both.0)
    ]
