-- How many checkers stand from a place on, and what is left of it when a checker goes off.
use Rattle.std.proofs.Common.{◌≡◌, ◌≢◌, ◌≤◌, ◌<◌, ◌+◌, ◌-◌, ℕ, zero, suc, List, [], ◌∷◌, length, sum, set, drop, get_or, inl, inr, refl, ap, ◌∙◌, arith, add-one, get_or-set_same, get_or-set_other, length-set}
use Rattle.std.proofs.lemmas.Bool.{cases_lt}
use Rattle.std.proofs.lemmas.List.{drop-set-lt}
use Rattle.std.proofs.lemmas.List.Sums.{sum_by-cons}
use Rattle.position_rank.specs.Placement.{moved, above}
use Rattle.move_rules.proofs.StayLive.{sum-moved}

-- ---- counts of checkers

pub held-inside : (xs : List ℕ) (f : ℕ) → 0 < get_or xs f 0 → f < length xs
held-inside [] f h = absurd (omega arith)
held-inside (x ∷ xs) zero h = omega arith
held-inside (x ∷ xs) (suc f) h = omega (arith, held-inside xs f h)

-- what stands from a place on
abbrev pub from_on : ℕ → List ℕ → ℕ
from_on n xs = sum (drop n xs)

all-from : (xs : List ℕ) → from_on 0 xs ≡ sum xs
all-from xs = refl

next-from : (x : ℕ) (xs : List ℕ) (n : ℕ) → from_on (suc n) (x ∷ xs) ≡ from_on n xs
next-from x xs n = refl

none-from : (n : ℕ) → from_on n [] ≡ 0
none-from zero = refl
none-from (suc n) = refl

whole : (x : ℕ) (xs : List ℕ) → sum (x ∷ xs) ≡ x + sum xs
whole x xs = sum_by-cons (λ (n : ℕ). n) x xs

whole-from : (x : ℕ) (xs : List ℕ) → from_on 0 (x ∷ xs) ≡ x + sum xs
whole-from x xs = whole x xs

first-at : (x : ℕ) (xs : List ℕ) → get_or (x ∷ xs) 0 0 ≡ x
first-at x xs = refl

first-set : (x : ℕ) (xs : List ℕ) (v : ℕ) → from_on 0 (set (x ∷ xs) 0 v) ≡ v + sum xs
first-set x xs v = whole v xs

later-at : (x : ℕ) (xs : List ℕ) (f : ℕ) → get_or (x ∷ xs) (suc f) 0 ≡ get_or xs f 0
later-at x xs f = refl

later-set : (x : ℕ) (xs : List ℕ) (f v : ℕ) → from_on 0 (set (x ∷ xs) (suc f) v) ≡ x + sum (set xs f v)
later-set x xs f v = whole x (set xs f v)

-- a place and those above it hold at most all
pub parts : (xs : List ℕ) (f : ℕ) → get_or xs f 0 + from_on (suc f) xs ≤ sum xs
parts [] f = omega arith
parts (x ∷ xs) zero = omega (arith, next-from x xs 0, all-from xs, whole x xs, first-at x xs)
parts (x ∷ xs) (suc f) = omega (arith, parts xs f, next-from x xs (suc f), later-at x xs f, whole x xs)

pub parts-off : (xs : List ℕ) (f : ℕ) → 1 ≤ f → get_or xs 0 0 + get_or xs f 0 + from_on (suc f) xs ≤ sum xs
parts-off [] f h = omega arith
parts-off (x ∷ xs) zero h = absurd (omega arith)
parts-off (x ∷ xs) (suc f) h = omega (arith, parts xs f, next-from x xs (suc f), later-at x xs f, first-at x xs, whole x xs)

pub above-at : (xs : List ℕ) (n k : ℕ) → n < k → get_or xs k 0 ≤ from_on (suc n) xs
above-at [] n k h = omega arith
above-at (x ∷ xs) n zero h = absurd (omega arith)
above-at (x ∷ xs) zero (suc k) h = omega (arith, parts xs k, next-from x xs 0, all-from xs, later-at x xs k)
above-at (x ∷ xs) (suc n) (suc k) h = omega (arith, above-at xs n k (omega arith), next-from x xs (suc n), later-at x xs k)

pub fewer-above : (xs : List ℕ) (m n : ℕ) → m ≤ n → from_on n xs ≤ from_on m xs
fewer-above [] m n h = omega (arith, none-from m, none-from n)
fewer-above (x ∷ xs) zero zero h = omega arith
fewer-above (x ∷ xs) zero (suc n) h = omega (arith, fewer-above xs zero n (omega arith), next-from x xs n, all-from xs, whole-from x xs)
fewer-above (x ∷ xs) (suc m) zero h = absurd (omega arith)
fewer-above (x ∷ xs) (suc m) (suc n) h = omega (arith, fewer-above xs m n (omega arith), next-from x xs n, next-from x xs m)

lowered : (xs : List ℕ) (f n v : ℕ) → v ≤ get_or xs f 0 → from_on n (set xs f v) ≤ from_on n xs
lowered [] f n v h = omega arith
lowered (x ∷ xs) zero zero v h = omega (arith, first-set x xs v, whole-from x xs, first-at x xs)
lowered (x ∷ xs) zero (suc n) v h = omega (arith, next-from v xs n, next-from x xs n)
lowered (x ∷ xs) (suc f) zero v h = omega (arith, lowered xs f zero v h, later-set x xs f v, whole-from x xs, all-from xs, all-from (set xs f v))
lowered (x ∷ xs) (suc f) (suc n) v h = lowered xs f n v h

-- where not all are off there is a highest place that is held
highest-held : (xs : List ℕ) → 0 < sum xs → (f : ℕ) × (0 < get_or xs f 0) × (from_on (suc f) xs ≡ 0)
highest-held [] h = absurd (omega arith)
highest-held (x ∷ xs) h = elim (cases_lt 0 (sum xs)) [
  | inl some ↦ (let r = highest-held xs some in (suc r.0, r.1, next-from x xs (suc r.0) ∙ r.2))
  | inr none ↦ (let all = whole x xs in (zero, omega (arith, first-at x xs, all), next-from x xs 0 ∙ (all-from xs ∙ omega arith)))
]

pub highest-in-play : (xs : List ℕ) → get_or xs 0 0 < sum xs → (f : ℕ) × (1 ≤ f) × (0 < get_or xs f 0) × (from_on (suc f) xs ≡ 0)
highest-in-play [] h = absurd (omega arith)
highest-in-play (x ∷ xs) h = let r = highest-held xs (omega (arith, first-at x xs, whole x xs)) in (suc r.0, omega arith, r.1, next-from x xs (suc r.0) ∙ r.2)

pub above-is : (xs : List ℕ) (n : ℕ) → above xs n ≡ from_on (suc n) xs
above-is xs n = ap (λ (k : ℕ). from_on k xs) (add-one n)

-- ---- one checker went off

pub off-now : (xs : List ℕ) (f : ℕ) → 1 ≤ f → 0 < get_or xs f 0 → get_or (moved xs f 0) 0 0 ≡ get_or xs 0 0 + 1
off-now xs f low held =
    let inside = held-inside xs f held in
    let apart : 0 ≢ f = omega arith in
    let long : 0 < length (set xs f (get_or xs f 0 - 1)) = omega (arith, inside, length-set xs f (get_or xs f 0 - 1)) in
    get_or-set_same (set xs f (get_or xs f 0 - 1)) 0 _ 0 long ∙ ap (λ (n : ℕ). n + 1) (get_or-set_other xs f 0 _ 0 apart)

pub sum-now : (xs : List ℕ) (f : ℕ) → 0 < get_or xs f 0 → sum (moved xs f 0) ≡ sum xs
sum-now xs f held = let inside = held-inside xs f held in sum-moved xs f 0 inside (omega (arith, inside)) held

pub above-now : (xs : List ℕ) (f k : ℕ) → above (moved xs f 0) k ≤ above xs k
above-now xs f k =
    let off : drop (k + 1) (moved xs f 0) ≡ drop (k + 1) (set xs f (get_or xs f 0 - 1)) = drop-set-lt (k + 1) (set xs f (get_or xs f 0 - 1)) 0 _ (omega arith) in
    omega (arith, ap sum off, lowered xs f (k + 1) (get_or xs f 0 - 1) (omega arith))
