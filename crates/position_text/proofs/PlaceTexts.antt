-- The texts of places: which bytes they lack, and that each is read as its place.
use Rattle.std.proofs.Common.{◌≡◌, ◌≢◌, ◌≤◌, ◌<◌, ◌+◌, ℕ, zero, suc, Bool, true, false, not, cond, ◌&&◌, eqb, nat_eq, List, [], ◌∷◌, ◌++◌, length, get_or, Option, Some, None, find, ◌⊎◌, inl, inr, refl, sym, ap, subst, ◌∙◌, arith}
use Rattle.std.proofs.lemmas.Bool.{cases_lt}
use Rattle.std.proofs.lemmas.Bool.Decides.{nat_tests}
use Rattle.std.specs.Cmp.Lexicographic.{pointwise}
use Rattle.std.specs.Fmt.{digits}
use Rattle.std.specs.List.{All, list_all, range_with_len}
use Rattle.position_text.specs.Text.{place, place_text, is_slash}

pub both-true : (a b : Bool) → (a && b) ≡ true → (a ≡ true) × (b ≡ true)
both-true true b e = (refl, e)
both-true false b e = absurd (cc)

pub not-true : (b : Bool) → not b ≡ true → b ≡ false
not-true true e = absurd (cc)
not-true false e = refl

-- this byte doesn't stand in the word
abbrev pub lacks : ℕ → List ℕ → Bool
lacks byte word = list_all (λ b. not (eqb b byte)) word

pub lacks-append : (byte : ℕ) (xs ys : List ℕ) → lacks byte xs ≡ true → lacks byte ys ≡ true → lacks byte (xs ++ ys) ≡ true
lacks-append byte [] ys h k = k
lacks-append byte (x ∷ xs) ys h k = let both = both-true (not (eqb x byte)) (lacks byte xs) h in rw both.0 (lacks-append byte xs ys both.1 k)

pub lacks-middle : (byte : ℕ) (xs ys : List ℕ) → lacks byte (xs ++ byte ∷ ys) ≡ true → ⊥
lacks-middle byte [] ys h = let same : eqb byte byte ≡ true = grind (arith, nat_tests) in let none = not-true _ (both-true (not (eqb byte byte)) (lacks byte ys) h).0 in absurd (cc)
lacks-middle byte (x ∷ xs) ys h = lacks-middle byte xs ys (both-true (not (eqb x byte)) (lacks byte (xs ++ byte ∷ ys)) h).1

pub lacks-at : (byte : ℕ) (xs : List ℕ) → lacks byte xs ≡ true → (i : ℕ) → i < length xs → get_or xs i 0 ≢ byte
lacks-at byte [] h i low e = absurd (omega arith)
lacks-at byte (x ∷ xs) h zero low e = let none = not-true _ (both-true (not (eqb x byte)) (lacks byte xs) h).0 in grind (arith, nat_tests)
lacks-at byte (x ∷ xs) h (suc i) low e = lacks-at byte xs (both-true (not (eqb x byte)) (lacks byte xs) h).1 i (omega arith) e

pub all-lack : (byte : ℕ) (xs : List ℕ) → lacks byte xs ≡ true → All (λ b. eqb b byte ≡ false) xs
all-lack byte [] h k d low = absurd (omega arith)
all-lack byte (x ∷ xs) h zero d low = not-true _ (both-true (not (eqb x byte)) (lacks byte xs) h).0
all-lack byte (x ∷ xs) h (suc k) d low = all-lack byte xs (both-true (not (eqb x byte)) (lacks byte xs) h).1 k d (omega arith)

abbrev is_that : Option ℕ → ℕ → Bool
is_that None p = false
is_that (Some q) p = eqb q p

that-one : (o : Option ℕ) (p : ℕ) → is_that o p ≡ true → o ≡ Some p
that-one None p e = absurd (cc)
that-one (Some q) p e = let same : q ≡ p = grind (arith, nat_tests) in ap Some same

abbrev reads_back : ℕ → Bool
reads_back p =
    lacks 32 (place_text p) && (lacks 47 (place_text p) && (lacks 42 (place_text p) && (not (is_slash (place_text p)) && is_that (place (place_text p)) p)))

all-read-back : list_all reads_back (range_with_len 0 26) ≡ true
unfolding digits
all-read-back = refl

each-in-range : (test : ℕ → Bool) (a n i : ℕ) → list_all test (range_with_len a n) ≡ true → a ≤ i → i < a + n → test i ≡ true
each-in-range test a zero i e low high = absurd (omega arith)
each-in-range test a (suc n) i e low high =
    let both = both-true (test a) (list_all test (range_with_len (a + 1) n)) e in
    elim (cases_lt a i) [
      | inl later ↦ each-in-range test (a + 1) n i both.1 (omega arith) (omega arith)
      | inr here ↦ (let same : a ≡ i = omega arith in subst (λ j. test j ≡ true) same both.0)
    ]

-- a place's text has no space, slash or star, and is read as that place
pub record ReadsBack (p : ℕ) : Type 0 where
  pub no_space : lacks 32 (place_text p) ≡ true
  pub no_slash : lacks 47 (place_text p) ≡ true
  pub no_star : lacks 42 (place_text p) ≡ true
  pub other_word : is_slash (place_text p) ≡ false
  pub same : place (place_text p) ≡ Some p

pub read-back : (p : ℕ) → p ≤ 25 → ReadsBack p
read-back p h =
    let one = both-true _ _ (each-in-range reads_back 0 26 p all-read-back (omega arith) (omega arith)) in
    let two = both-true _ _ one.1 in
    let three = both-true _ _ two.1 in
    let four = both-true _ _ three.1 in
    record { no_space = one.0; no_slash = two.0; no_star = three.0; other_word = not-true _ four.0; same = that-one _ p four.1 }

same-bytes : (xs ys : List ℕ) → pointwise nat_eq xs ys ≡ true → xs ≡ ys
same-bytes [] [] e = refl
same-bytes [] (y ∷ ys) e = absurd (cc)
same-bytes (x ∷ xs) [] e = absurd (cc)
same-bytes (x ∷ xs) (y ∷ ys) e =
    let both = both-true (nat_eq x y) (pointwise nat_eq xs ys) e in
    let here : x ≡ y = (let t = both.0 in grind (arith, nat_tests)) in
    ap (λ z. z ∷ xs) here ∙ ap (λ zs. y ∷ zs) (same-bytes xs ys both.1)

found : {X : Type 0} (b : Bool) (x : X) (o : Option X) (y : X) → cond b (Some x) o ≡ Some y → ((b ≡ true) × (x ≡ y)) ⊎ (o ≡ Some y)
found true x o y e = inl (refl, cc)
found false x o y e = inr e

-- what is found in a range is one of its numbers that passes
found-in-range : (test : ℕ → Bool) (a n i : ℕ) → find test (range_with_len a n) ≡ Some i → (i < a + n) × (test i ≡ true)
found-in-range test a zero i e = absurd (cc)
found-in-range test a (suc n) i e = elim (found (test a) a (find test (range_with_len (a + 1) n)) i e) [
  | inl here ↦ (let at = here.1 in (omega arith, subst (λ j. test j ≡ true) at here.0))
  | inr later ↦ (let low = found-in-range test (a + 1) n i later in (omega (arith, low.0), low.1))
]

-- a word that is read is the text of the place
pub place-text : (w : List ℕ) (p : ℕ) → place w ≡ Some p → (p ≤ 25) × (w ≡ place_text p)
place-text w p e =
    let at = found-in-range (λ (p : ℕ). pointwise nat_eq (place_text p) w) 0 26 p e in
    (omega (arith, at.0), sym (same-bytes (place_text p) w at.1))

pub place-none : (w : List ℕ) (p : ℕ) → p ≤ 25 → place w ≡ None → w ≡ place_text p → ⊥
place-none w p h none e = let some : place w ≡ Some p = ap place e ∙ (read-back p h).same in absurd (cc)

pub place-same : (w : List ℕ) (p q : ℕ) → p ≤ 25 → place w ≡ Some q → w ≡ place_text p → q ≡ p
place-same w p q h some e = let known : place w ≡ Some p = ap place e ∙ (read-back p h).same in (cc)
