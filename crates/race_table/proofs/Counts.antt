-- The highest checker of a side, and counts above a place.
use Rattle.std.proofs.Common.{◌≡◌, ◌≤◌, ◌<◌, ◌+◌, ◌↔◌, IsTrue, ℕ, zero, suc, List, [], ◌∷◌, length, sum, drop, get_or, ◌⊎◌, inl, inr, refl, subst, ◌∙◌, arith}
use Rattle.std.proofs.lemmas.Bool.{cases_lt}
use Rattle.std.proofs.lemmas.Bool.Decides.{nat_tests}
use Rattle.std.proofs.lemmas.List.{get_or-drop}
use Rattle.std.proofs.lemmas.List.Sums.{sum_by-cons}
use Rattle.position_rank.specs.Placement.{Placement, IsPosition, IsLive, InPlay, above}
use Rattle.race_table.specs.Races.{IsHeld, IsRace, highest_from, highest_of, is_race}

pub held-inside : (xs : List ℕ) (f : ℕ) → IsHeld xs f → f < length xs
held-inside [] f h = absurd (omega arith)
held-inside (x ∷ xs) zero h = omega arith
held-inside (x ∷ xs) (suc f) h = omega (arith, held-inside xs f h)

none-in-all : (xs : List ℕ) → ((k : ℕ) → get_or xs k 0 ≡ 0) → sum xs ≡ 0
none-in-all [] h = refl
none-in-all (x ∷ xs) h = omega (arith, sum_by-cons (λ (n : ℕ). n) x xs, h 0, none-in-all xs (λ k. h (suc k)))

-- with no checker on any higher place, none stands above
pub none-above : (counts : List ℕ) (place : ℕ) → ((k : ℕ) → place < k → get_or counts k 0 ≡ 0) → above counts place ≡ 0
none-above counts place h = none-in-all (drop (place + 1) counts) (λ k. get_or-drop (place + 1) counts k 0 ∙ h (place + 1 + k) (omega arith))

-- the side has a checker on this place, and none on a higher one
pub record IsHighest (counts : List ℕ) (place : ℕ) : Type 0 where
  pub held : IsHeld counts place
  pub none_higher : (higher : ℕ) → place < higher → get_or counts higher 0 ≡ 0

highest : (xs : List ℕ) → ((k : ℕ) → get_or xs k 0 ≡ 0) ⊎ ((f : ℕ) × IsHighest xs f)
highest [] = inl (λ k. refl)
highest (x ∷ xs) = elim (highest xs) [
  | inr some ↦ inr (suc some.0, record { held = some.1.held; none_higher = later some.0 some.1 })
  | inl none ↦ elim (cases_lt 0 x) [
    | inl here ↦ inr (zero, record { held = here; none_higher = only none })
    | inr zero_here ↦ inl (all none zero_here)
  ]
] where
  later : (f : ℕ) → IsHighest xs f → (k : ℕ) → suc f < k → get_or (x ∷ xs) k 0 ≡ 0
  later f top zero h = absurd (omega arith)
  later f top (suc k) h = top.none_higher k (omega arith)

  only : ((k : ℕ) → get_or xs k 0 ≡ 0) → (k : ℕ) → 0 < k → get_or (x ∷ xs) k 0 ≡ 0
  only none zero h = absurd (omega arith)
  only none (suc k) h = none k

  all : ((k : ℕ) → get_or xs k 0 ≡ 0) → x ≤ 0 → (k : ℕ) → get_or (x ∷ xs) k 0 ≡ 0
  all none zero_here zero = omega arith
  all none zero_here (suc k) = none k

-- a side in play has a highest checker, which isn't off
pub highest-held : (counts : List ℕ) → InPlay counts → (f : ℕ) × (1 ≤ f) × IsHighest counts f
highest-held [] play = absurd (play refl)
highest-held (x ∷ xs) play = elim (highest xs) [
  | inr some ↦ (suc some.0, omega arith, record { held = some.1.held; none_higher = later some.0 some.1 })
  | inl none ↦ absurd (play (omega (arith, sum_by-cons (λ (n : ℕ). n) x xs, none-in-all xs none)))
] where
  later : (f : ℕ) → IsHighest xs f → (k : ℕ) → suc f < k → get_or (x ∷ xs) k 0 ≡ 0
  later f top zero h = absurd (omega arith)
  later f top (suc k) h = top.none_higher k (omega arith)

-- a place below which a side's checkers stand, and where one stands unless it is 0, tells the highest
pub record Topped (counts : List ℕ) (top : ℕ) : Type 0 where
  pub held : 0 < top → IsHeld counts top
  pub empty : (between : ℕ) → top < between → between < 26 → get_or counts between 0 ≡ 0

below-top : (counts : List ℕ) (top place : ℕ) → length counts ≡ 26 → Topped counts top → IsHeld counts place → place ≤ top
below-top counts top place many topped held = elim (cases_lt top place) [
  | inl above ↦ absurd (omega (arith, topped.empty place above (omega (arith, held-inside counts place held, many)), held))
  | inr below ↦ below
]

top-held : (counts : List ℕ) (top : ℕ) → length counts ≡ 26 → InPlay counts → Topped counts top → IsHeld counts top
top-held counts top many play topped =
    let highest = highest-held counts play in
    topped.held (omega (arith, highest.1, below-top counts top highest.0 many topped highest.2.held))

-- a race by the highest places
pub race-by-tops : (p : Placement) (a b : ℕ) → IsPosition p → IsLive p → Topped p.mover a → Topped p.other b → IsRace p ↔ (a + b < 25)
race-by-tops p a b position live mine theirs = (
  λ race. race.passed a b (top-held p.mover a position.mover.places live.mover mine) (top-held p.other b position.other.places live.other theirs),
  λ less. record {
    position = position;
    live = live;
    passed = λ m o here there. omega (arith, less, below-top p.mover a m position.mover.places mine here, below-top p.other b o position.other.places theirs there);
  },
)

one-top : (counts : List ℕ) (a b : ℕ) → length counts ≡ 26 → Topped counts a → Topped counts b → a ≡ b
one-top counts a b many first second = elim (cases_lt a b) [
  | inl less ↦ absurd (omega (arith, below-top counts a b many first (second.held (omega (arith, less))), less))
  | inr upto ↦ elim (cases_lt b a) [
    | inl more ↦ absurd (omega (arith, below-top counts b a many second (first.held (omega (arith, more))), more))
    | inr from ↦ omega (arith, upto, from)
  ]
]

-- ---- the highest place as it is defined

higher-held : (place : ℕ) (xs : List ℕ) → 0 < highest_from place xs → (i : ℕ) × IsHeld xs i × (highest_from place xs ≡ place + i)
higher-held place [] h = absurd (omega arith)
higher-held place (x ∷ xs) h = elim (cases_lt 0 (highest_from (place + 1) xs)) [
  | inl later ↦ (let r = higher-held (place + 1) xs later in (suc r.0, r.1, grind (arith, nat_tests, r.2)))
  | inr none ↦ elim (cases_lt 0 x) [
    | inl here ↦ (zero, here, grind (arith, nat_tests))
    | inr empty ↦ absurd (grind (arith, nat_tests))
  ]
]

none-beyond : (place : ℕ) (xs : List ℕ) (i : ℕ) → highest_from place xs < place + i → get_or xs i 0 ≡ 0
none-beyond place [] i h = refl
none-beyond place (x ∷ xs) zero h = elim (cases_lt 0 x) [ inl here ↦ absurd (grind (arith, nat_tests)) | inr empty ↦ omega arith ]
none-beyond place (x ∷ xs) (suc i) h = none-beyond (place + 1) xs i (grind (arith, nat_tests))

pub highest-topped : (counts : List ℕ) → Topped counts (highest_of counts)
unfolding highest_of
highest-topped counts = record {
  held = λ some. let r = higher-held 0 counts some in let is : r.0 ≡ highest_from 0 counts = omega (arith, r.2) in subst (IsHeld counts) is r.1;
  empty = λ between above below. none-beyond 0 counts between (omega (arith, above));
}

pub highest-is : (counts : List ℕ) (top : ℕ) → length counts ≡ 26 → Topped counts top → top ≡ highest_of counts
highest-is counts top many topped = one-top counts top (highest_of counts) many topped (highest-topped counts)

pub race-by-highest : (p : Placement) → IsPosition p → IsLive p → IsTrue (is_race p) ↔ IsRace p
race-by-highest p position live =
    let tells = race-by-tops p (highest_of p.mover) (highest_of p.other) position live (highest-topped p.mover) (highest-topped p.other) in (
      λ less. tells.1 (let below : highest_of p.mover + highest_of p.other < 25 = grind (arith, nat_tests) in below),
      λ race. let below = tells.0 race in grind (arith, nat_tests),
    )
