-- Laws of the counts of places. They show that a layout's places can be had back from its counts.
use Rattle.std.proofs.Common.{◌≡◌, ℕ, zero, suc, ◌+◌, ◌-◌, ◌<◌, ◌≤◌, Bool, true, false, List, [], ◌∷◌, length, replicate, get_or, set, sum, drop, count_by, take, eqb, ltb, leb, cond, All, refl, ap, sym, subst, ◌∙◌, inl, inr, arith, length-set, length-drop, length-take, get_or-set_same, get_or-set_other}
use Rattle.std.specs.List.{range_with_len}
use Rattle.std.proofs.lemmas.List.{drop-set-lt, drop-set-add, drop-replicate, ext_get_or, get_or-drop}
use Rattle.std.proofs.lemmas.List.FromFn.{length-map-range_with_len, get_or-map-range_with_len}
use Rattle.std.proofs.lemmas.List.Sums.{sum_by-set, sum_by-cons}
use Rattle.std.proofs.lemmas.List.Elements.{All-head, All-tail, All-take, All-cons, All-nil}
use Rattle.std.proofs.lemmas.Bool.{cases_eq, cases_lt, lt-ltb, le-ltb}
use Rattle.std.proofs.lemmas.Bool.Decides.{nat_tests}
use Rattle.position_rank.specs.Packed.{counts_of, packed_counts, place_from_top, IsFalling, IsPacked}
use Rattle.position_rank.specs.Placement.{IsLayout}

pub length-counts_of : (places : List ℕ) → length (counts_of places) ≡ 26
unfolding counts_of
length-counts_of places =
    length-map-range_with_len (λ place. count_by (λ p. eqb p place) places) 0 26

pub counts_of-at : (places : List ℕ) (place : ℕ) → place ≤ 25
    → get_or (counts_of places) place 0 ≡ count_by (λ p. eqb p place) places
unfolding counts_of
counts_of-at places place h = get_or-map-range_with_len
    (λ place. count_by (λ p. eqb p place) places) 0 26 place place 0 (omega arith) (omega arith)

-- one more place is one more checker there
counts_of-cons : (place : ℕ) (places : List ℕ) → place ≤ 25
    → counts_of (place ∷ places)
    ≡ set (counts_of places) place (get_or (counts_of places) place 0 + 1)
counts_of-cons place places h =
    ext_get_or 0 _ _ (length-counts_of (place ∷ places)
    ∙ sym (length-set (counts_of places) place _ ∙ length-counts_of places))
    (λ i below.
    let within : i ≤ 25 = omega (arith, length-counts_of (place ∷ places)) in
    let at : get_or (counts_of (place ∷ places)) i 0
    ≡ cond (eqb place i) 1 0 + get_or (counts_of places) i 0 =
    counts_of-at (place ∷ places) i within
    ∙ (sum_by-cons (λ p. cond (eqb p i) 1 0) place places
    ∙ ap (λ n. cond (eqb place i) 1 0 + n) (sym (counts_of-at places i within))) in
    grind (
      arith,
      nat_tests,
      length-counts_of places,
      get_or-set_same,
      get_or-set_other,
      cases_eq i
          place,
    ))

counts_of-nil : counts_of [] ≡ replicate 26 0
unfolding counts_of
counts_of-nil = refl

zeros : (n : ℕ) → sum (replicate n 0) ≡ 0
zeros zero = refl
zeros (suc n) = zeros n

pub sum-counts_of : (places : List ℕ) → All (λ place. place ≤ 25) places
    → sum (counts_of places) ≡ length places
sum-counts_of [] h = rw counts_of-nil refl
sum-counts_of (place ∷ places) h =
    let below : place ≤ 25 = All-head (λ (p : ℕ). p ≤ 25) place places h in
    let rest : sum (counts_of places) ≡ length places =
    sum-counts_of places (All-tail (λ (p : ℕ). p ≤ 25) place places h) in
    let inside : place < length (counts_of places) = omega (arith, length-counts_of places) in
    rw (counts_of-cons place places below)
    (omega (
      arith,
      sum_by-set (λ (x : ℕ). x) (counts_of places) place
          (get_or (counts_of places) place 0 + 1) 0 inside,
    ))

-- how the sum from a place on changes at a write
sum-drop-set : (xs : List ℕ) (i k v : ℕ) → i < length xs
    → sum (drop k (set xs i v)) + cond (ltb i k) 0 (get_or xs i 0)
    ≡ sum (drop k xs) + cond (ltb i k) 0 v
sum-drop-set xs i k v h = elim (cases_lt i k) [
  | inl below ↦ rw (drop-set-lt k xs i v below, lt-ltb i k below) refl
  | inr above ↦ (
      let j = i - k in
      let split : k + j ≡ i = omega arith in
      let inside : j < length (drop k xs) = omega (arith, length-drop k xs) in
      let moved_on : drop k (set xs i v) ≡ set (drop k xs) j v = subst
      (λ (n : ℕ). drop k (set xs n v) ≡ set (drop k xs) j v) split (drop-set-add k xs j v) in
      let read : get_or (drop k xs) j 0 ≡ get_or xs i 0 =
      get_or-drop k xs j 0 ∙ ap (λ (n : ℕ). get_or xs n 0) split in
      rw (moved_on, le-ltb i k above)
      (omega (arith, sum_by-set (λ (x : ℕ). x) (drop k xs) j v 0 inside, read)))
]

pub above-counts_of : (places : List ℕ) (place : ℕ) → All (λ place. place ≤ 25) places
    → sum (drop (place + 1) (counts_of places)) ≡ count_by (λ p. ltb place p) places
above-counts_of [] place h = rw (counts_of-nil, drop-replicate) (zeros (26 - (place + 1)))
above-counts_of (p ∷ places) place h =
    let below : p ≤ 25 = All-head (λ (p : ℕ). p ≤ 25) p places h in
    let rest : sum (drop (place + 1) (counts_of places)) ≡ count_by (λ p. ltb place p) places =
    above-counts_of places place (All-tail (λ (p : ℕ). p ≤ 25) p places h) in
    let inside : p < length (counts_of places) = omega (arith, length-counts_of places) in
    let step =
    sum-drop-set (counts_of places) p (place + 1) (get_or (counts_of places) p 0 + 1) inside in
    let cons = sum_by-cons (λ p. cond (ltb place p) 1 0) p places in
    rw (counts_of-cons p places below)
    (grind (arith, nat_tests, step, cons, rest, cases_lt p (place + 1)))

-- 1 where the test passes
abbrev pub one : Bool → ℕ
one b = cond b 1 0

twice : (b : Bool) → cond b 2 0 ≡ one b + one b
twice true = refl
twice false = refl

none : (b : Bool) → ◌≡◌ {A = ℕ} (cond b 0 0) 0
none true = refl
none false = refl

count-take : (q : ℕ → Bool) (h m l c : ℕ) → 1 ≤ c → c ≤ 3 → (c ≤ 1 → m ≡ 0) → (c ≤ 2 → l ≡ 0)
    → count_by q (take c (h ∷ m ∷ l ∷ [])) + cond (q 0) (3 - c) 0
    ≡ one (q h) + one (q m) + one (q l)
count-take q h m l zero a b s t = absurd (omega arith)
count-take q h m l (suc zero) a b s t =
    rw (s (omega arith), t (omega arith)) (omega (arith, twice (q 0)))
count-take q h m l (suc (suc zero)) a b s t = rw (t (omega arith)) (omega arith)
count-take q h m l (suc (suc (suc zero))) a b s t = omega (arith, none (q 0))
count-take q h m l (suc (suc (suc (suc n)))) a b s t = absurd (omega arith)

-- all cells count, but for the 0s past the checkers
count-packed : (q : ℕ → Bool) (h m l c : ℕ) → IsFalling h m l c
    → count_by q (take c (h ∷ m ∷ l ∷ [])) + cond (q 0) (3 - c) 0
    ≡ one (q h) + one (q m) + one (q l)
count-packed q h m l c packed =
    count-take q h m l c packed.at_least_one packed.at_most_three packed.no_second packed.no_third

within-packed : (h m l c : ℕ) → IsFalling h m l c
    → All (λ place. place ≤ 25) (take c (h ∷ m ∷ l ∷ []))
within-packed h m l c packed =
    All-take (λ (p : ℕ). p ≤ 25) c (h ∷ m ∷ l ∷ [])
    (All-cons (λ (p : ℕ). p ≤ 25) h (m ∷ l ∷ []) (omega (arith, packed.within))
    (All-cons (λ (p : ℕ). p ≤ 25) m (l ∷ []) (omega (arith, packed.within, packed.upper))
    (All-cons (λ (p : ℕ). p ≤ 25) l [] (omega (arith, packed.within, packed.upper, packed.lower))
    (All-nil (λ (p : ℕ). p ≤ 25)))))

pub length-packed : (h m l c : ℕ) → length (packed_counts h m l c) ≡ 26
unfolding packed_counts
length-packed h m l c = length-counts_of (take c (h ∷ m ∷ l ∷ []))

pub sum-packed : (h m l c : ℕ) → IsFalling h m l c → sum (packed_counts h m l c) ≡ c
unfolding packed_counts
sum-packed h m l c packed =
    omega (
      arith,
      sum-counts_of (take c (h ∷ m ∷ l ∷ [])) (within-packed h m l c packed),
      length-take c (h ∷ m ∷ l ∷ []),
      packed.at_most_three,
    )

pub IsLayout-packed : (h m l c : ℕ) → IsFalling h m l c → IsLayout (packed_counts h m l c)
IsLayout-packed h m l c packed = record {
  places = length-packed h m l c;
  at_least_one = omega (arith, sum-packed h m l c packed, packed.at_least_one);
  at_most_three = omega (arith, sum-packed h m l c packed, packed.at_most_three);
}

pub packed-at : (h m l c place : ℕ) → IsFalling h m l c → place ≤ 25
    → get_or (packed_counts h m l c) place 0 + cond (eqb 0 place) (3 - c) 0
    ≡ one (eqb h place) + one (eqb m place) + one (eqb l place)
unfolding packed_counts
packed-at h m l c place packed within =
    omega (
      arith,
      counts_of-at (take c (h ∷ m ∷ l ∷ [])) place within,
      count-packed
          (λ p. eqb p place) h m l c packed,
    )

pub packed-above : (h m l c place : ℕ) → IsFalling h m l c
    → sum (drop (place + 1) (packed_counts h m l c))
    ≡ one (ltb place h) + one (ltb place m) + one (ltb place l)
unfolding packed_counts
packed-above h m l c place packed =
    let off : cond (ltb place 0) (3 - c) 0 ≡ 0 = rw (le-ltb place 0 (omega arith)) refl in
    omega (
      arith,
      above-counts_of (take c (h ∷ m ∷ l ∷ [])) place (within-packed h m l c packed),
      count-packed (λ p. ltb place p) h m l c packed,
      off,
    )

-- the number of places from a on that are below h
pub count-below : (n a h : ℕ) → h ≤ a + n
    → count_by (λ place. ltb place h) (range_with_len a n) ≡ h - a
count-below zero a h high = omega arith
count-below (suc n) a h high =
    let rest = count-below n (a + 1) h (omega arith) in
    let cons = sum_by-cons (λ place. one (ltb place h)) a (range_with_len (a + 1) n) in
    elim (cases_lt a h) [
      | inl below ↦ omega (arith, cons, rest, ap one (lt-ltb a h below))
      | inr above ↦ omega (arith, cons, rest, ap one (le-ltb a h above))
    ]

pub count-same : (p q : ℕ → Bool) → ((x : ℕ) → p x ≡ q x) → (xs : List ℕ)
    → count_by p xs ≡ count_by q xs
count-same p q same [] = refl
count-same p q same (x ∷ xs) = omega (
  arith,
  sum_by-cons (λ x. one (p x)) x xs,
  sum_by-cons (λ x. one (q x)) x xs,
  count-same p q
      same xs,
  ap one (same x),
)

place_from_top-is : (counts : List ℕ) (number h : ℕ) → h ≤ 25
    → ((place : ℕ) → leb number (sum (drop (place + 1) counts)) ≡ ltb place h)
    → place_from_top counts number ≡ h
unfolding place_from_top
place_from_top-is counts number h high same =
    count-same (λ place. leb number (sum (drop (place + 1) counts))) (λ place. ltb place h) same
    (range_with_len 0 25) ∙ (count-below 25 0 h (omega arith) ∙ omega arith)

pub top-packed : (h m l c : ℕ) → IsFalling h m l c → place_from_top (packed_counts h m l c) 1 ≡ h
top-packed h m l c packed =
    place_from_top-is (packed_counts h m l c) 1 h packed.within
    (λ place. let above = packed-above h m l c place
    packed in let a = packed.upper in let b = packed.lower in grind
    (arith, nat_tests, above, a, b))

pub second-packed : (h m l c : ℕ) → IsFalling h m l c → place_from_top (packed_counts h m l c) 2 ≡ m
second-packed h m l c packed =
    place_from_top-is (packed_counts h m l c) 2 m (omega (arith, packed.within, packed.upper))
    (λ place. let above = packed-above h m l c place
    packed in let a = packed.upper in let b = packed.lower in grind
    (arith, nat_tests, above, a, b))

pub third-packed : (h m l c : ℕ) → IsFalling h m l c → place_from_top (packed_counts h m l c) 3 ≡ l
third-packed h m l c packed =
    place_from_top-is (packed_counts h m l c) 3 l
    (omega (arith, packed.within, packed.upper, packed.lower))
    (λ place. let above = packed-above h m l c place
    packed in let a = packed.upper in let b = packed.lower in grind
    (arith, nat_tests, above, a, b))

-- falling cells can be had back from their counts
pub packed : (h m l c : ℕ) → IsFalling h m l c → IsPacked h m l c
packed h m l c falling = record {
  falling = falling;
  first = top-packed h m l c falling;
  second = second-packed h m l c falling;
  third = third-packed h m l c falling;
  all = sum-packed h m l c falling;
}
