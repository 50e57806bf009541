-- Laws of live ranks.
use Rattle.std.proofs.Common.{◌≡◌, ℕ, zero, suc, ◌+◌, ◌-◌, ◌*◌, ◌/◌, ◌%◌, ◌<◌, ◌≤◌, Bool, true, false, ◌&&◌, ◌||◌, List, [], ◌∷◌, length, get_or, sum, count_by, eqb, ltb, leb, All, refl, ap, sym, subst, ◌∙◌, inl, inr, arith, add-one}
use Rattle.std.specs.List.{range_with_len}
use Rattle.std.proofs.lemmas.Nat.{div-mul-add, mod-mul-add}
use Rattle.std.proofs.lemmas.List.FromFn.{length-range_with_len, get_or-range_with_len}
use Rattle.std.proofs.lemmas.List.Sums.{sum_by-cons, AllPass-from_list_all, list_all-from_AllPass}
use Rattle.std.proofs.lemmas.List.Elements.{All-weaker}
use Rattle.std.proofs.lemmas.Bool.{cases_lt, cases_order, and_parts, and_from, or_cases, or_left, or_right, not-true, not_from_false, eqb-true, eqb-false, eq-eqb, ne_eqb, false_from_ne_true, le-leb, lt-leb, lt-ltb, le-ltb}
use Rattle.position_rank.specs.Placement.{Placement, IsLayout, IsPosition, IsLive, InPlay, AreApart}
use Rattle.position_rank.specs.Packed.{counts_of}
use Rattle.position_rank.proofs.PlaceCounts.{one, count-below, count-same}
use Rattle.position_rank.specs.Ranks.{choose, layouts, rising_places, sum_of_ways, rank_of, square_rank_of}
use Rattle.position_rank.specs.LiveRanks.{are_apart, is_in_play, is_live, highest_place, falling_places, layout_at, placement_at, live_below, live_positions, live_rank_of}
use Rattle.position_rank.proofs.PackedCells.{one-le}
use Rattle.position_rank.proofs.Choose.{choose-more, choose-one, rises, two-below, three-below}
use Rattle.position_rank.proofs.RisingPlaces.{often-cons, RiseFrom, counts_of-rising_places, rising_places-rise, rising_places-within, length-rising_places, counts_of-same}
use Rattle.position_rank.proofs.RankLaws.{layouts-one, layouts-two, layouts-three, ways-one, ways-two, ways-three, rank-below, square-below, positions-same}

pub All-range : (a n : ℕ) → All (λ x. (a ≤ x) × (x < a + n)) (range_with_len a n)
All-range a n = λ k d below.
    let inside : k < n = omega (arith, length-range_with_len a n) in
    rw (get_or-range_with_len a n k d inside) (omega arith, omega arith)

-- the test at one point
apart_at : Placement → ℕ → Bool
apart_at p point = eqb (get_or p.mover point 0) 0 || eqb (get_or p.other (25 - point) 0) 0

apart_at-from : (p : Placement) (point : ℕ) → apart_at p point ≡ true → 0 < get_or p.mover point 0 → get_or p.other (25 - point) 0 ≡ 0
unfolding apart_at
apart_at-from p point e held = elim (or_cases (eqb (get_or p.mover point 0) 0) (eqb (get_or p.other (25 - point) 0) 0) e) [
  | inl none ↦ absurd (omega (arith, eqb-true (get_or p.mover point 0) 0 none))
  | inr none ↦ eqb-true (get_or p.other (25 - point) 0) 0 none
]

from-apart_at : (p : Placement) (point : ℕ) → (0 < get_or p.mover point 0 → get_or p.other (25 - point) 0 ≡ 0) → apart_at p point ≡ true
unfolding apart_at
from-apart_at p point apart = elim (cases_lt 0 (get_or p.mover point 0)) [
  | inl held ↦ or_right (eqb (get_or p.mover point 0) 0) _ (eq-eqb (get_or p.other (25 - point) 0) 0 (apart held))
  | inr none ↦ or_left _ (eqb (get_or p.other (25 - point) 0) 0) (eq-eqb (get_or p.mover point 0) 0 (omega arith))
]

apart-from : (p : Placement) → are_apart p ≡ true → AreApart p
unfolding are_apart apart_at
apart-from p e = λ point from to held.
    let all : All (λ x. apart_at p x ≡ true) (range_with_len 1 24) = AllPass-from_list_all (apart_at p) (range_with_len 1 24) e in
    let at : get_or (range_with_len 1 24) (point - 1) 0 ≡ point = get_or-range_with_len 1 24 (point - 1) 0 (omega arith) ∙ omega arith in
    apart_at-from p point (subst (λ (n : ℕ). apart_at p n ≡ true) at (all (point - 1) 0 (omega (arith, length-range_with_len 1 24)))) held

from-apart : (p : Placement) → AreApart p → are_apart p ≡ true
unfolding are_apart apart_at
from-apart p apart =
    list_all-from_AllPass (apart_at p) (range_with_len 1 24)
    (All-weaker (λ (x : ℕ). (1 ≤ x) × (x < 1 + 24)) (λ (x : ℕ). apart_at p x ≡ true) (λ x h. from-apart_at p x (apart x h.0 (omega (arith, h.1)))) (range_with_len 1 24) (All-range 1 24))

in_play-from : (counts : List ℕ) → is_in_play counts ≡ true → InPlay counts
in_play-from counts e = eqb-false (get_or counts 0 0) (sum counts) (not-true _ e)

from-in_play : (counts : List ℕ) → InPlay counts → is_in_play counts ≡ true
from-in_play counts playing = not_from_false _ (ne_eqb (get_or counts 0 0) (sum counts) playing)

pub live-from : (p : Placement) → is_live p ≡ true → IsLive p
live-from p e =
    let first = and_parts (are_apart p && is_in_play p.mover) (is_in_play p.other) e in
    let second = and_parts (are_apart p) (is_in_play p.mover) first.0 in
    record { apart = apart-from p second.0; mover = in_play-from p.mover second.1; other = in_play-from p.other first.1 }

pub from-live : (p : Placement) → IsLive p → is_live p ≡ true
from-live p live =
    and_from (are_apart p && is_in_play p.mover) (is_in_play p.other)
    (and_from (are_apart p) (is_in_play p.mover) (from-apart p live.apart) (from-in_play p.mover live.mover)) (from-in_play p.other live.other)

-- the highest place is where the ways pass the number
ways-rise : (others m n : ℕ) → m ≤ n → choose (m + suc others - 1) (suc others) ≤ choose (n + suc others - 1) (suc others)
ways-rise others = rises (λ n. choose (n + suc others - 1) (suc others))
    (λ n.
    let low : n + suc others - 1 ≡ n + others = omega arith in
    let high : suc n + suc others - 1 ≡ n + others + 1 = omega arith in
    let last : suc others ≡ others + 1 = omega arith in
    rw (low, high) (rw last (omega (arith, choose-more (n + others) others))))

highest_place-is : (others h ways : ℕ) → h ≤ 25 → choose (h + suc others - 1) (suc others) ≤ ways → ways < choose (h + 1 + suc others - 1) (suc others) → highest_place (suc others) ways ≡ h
unfolding highest_place
highest_place-is others h ways high from to =
    count-same (λ place. leb (choose (place + suc others - 1) (suc others)) ways) (λ place. ltb place (h + 1))
    (λ place. elim (cases_lt place (h + 1)) [
      | inl low ↦ le-leb _ _ (omega (arith, ways-rise others place h (omega arith), from)) ∙ sym (lt-ltb place (h + 1) low)
      | inr up ↦ lt-leb _ _ (omega (arith, ways-rise others (h + 1) place up, to)) ∙ sym (le-ltb place (h + 1) up)
    ])
    (range_with_len 1 25)
    ∙ (count-below 25 1 (h + 1) (omega arith) ∙ omega arith)

-- a layout stands at its rank
falling-one : (a : ℕ) → a ≤ 25 → falling_places 1 a ≡ a ∷ []
falling-one a high =
    let low : a + 1 - 1 ≡ a = omega arith in
    let up : a + 1 + 1 - 1 ≡ a + 1 = omega arith in
    ap (λ p. p ∷ []) (highest_place-is 0 a a high (rw low (omega (arith, choose-one a))) (rw up (omega (arith, choose-one (a + 1)))))

falling-two : (a b : ℕ) → a ≤ b → b ≤ 25 → falling_places 2 (a + choose (b + 1) 2) ≡ b ∷ a ∷ []
falling-two a b upper high =
    let low : b + 2 - 1 ≡ b + 1 = omega arith in
    let up : b + 1 + 2 - 1 ≡ b + 2 = omega arith in
    let top : highest_place 2 (a + choose (b + 1) 2) ≡ b = highest_place-is 1 b (a + choose (b + 1) 2) high (rw low (omega arith)) (rw up (two-below a b upper)) in
    let rest : a + choose (b + 1) 2 - choose (b + 1) 2 ≡ a = omega arith in
    rw top (rw low (rw rest (ap (λ ps. b ∷ ps) (falling-one a (omega arith)))))

falling-three : (a b d : ℕ) → a ≤ b → b ≤ d → d ≤ 25 → falling_places 3 (a + choose (b + 1) 2 + choose (d + 2) 3) ≡ d ∷ b ∷ a ∷ []
falling-three a b d lower upper high =
    let low : d + 3 - 1 ≡ d + 2 = omega arith in
    let up : d + 1 + 3 - 1 ≡ d + 3 = omega arith in
    let all = a + choose (b + 1) 2 + choose (d + 2) 3 in
    let top : highest_place 3 all ≡ d = highest_place-is 2 d all high (rw low (omega arith)) (rw up (three-below a b d lower upper)) in
    let rest : all - choose (d + 2) 3 ≡ a + choose (b + 1) 2 = omega arith in
    rw top (rw low (rw rest (ap (λ ps. d ∷ ps) (falling-two a b lower (omega arith)))))

-- the counts don't depend on the order
layout_at-rise : (places : List ℕ) → RiseFrom 0 places → All (λ place. place ≤ 25) places → 1 ≤ length places → length places ≤ 3 → layout_at (length places) (sum_of_ways 1 places) ≡ counts_of places
unfolding layout_at
layout_at-rise [] r all low short = absurd (omega (arith, low))
layout_at-rise (a ∷ []) r all low short = rw (ways-one a, falling-one a (all 0 0 (omega arith))) refl
layout_at-rise (a ∷ b ∷ []) r all low short =
    rw (ways-two a b, falling-two a b r.1.0 (all 1 0 (omega arith)))
    (counts_of-same (b ∷ a ∷ []) (a ∷ b ∷ []) (λ k within. omega (arith, often-cons k b (a ∷ []), often-cons k a [], often-cons k a (b ∷ []), often-cons k b [])))
layout_at-rise (a ∷ b ∷ d ∷ []) r all low short =
    rw (ways-three a b d, falling-three a b d r.1.0 r.1.1.0 (all 2 0 (omega arith)))
    (counts_of-same (d ∷ b ∷ a ∷ []) (a ∷ b ∷ d ∷ [])
    (λ k within. omega (arith, often-cons k d (b ∷ a ∷ []), often-cons k b (a ∷ []), often-cons k a [], often-cons k a (b ∷ d ∷ []), often-cons k b (d ∷ []), often-cons k d [])))
layout_at-rise (a ∷ b ∷ d ∷ p ∷ ps) r all low short = absurd (omega (arith, short))

pub layout_at-rank : (counts : List ℕ) → IsLayout counts → layout_at (sum counts) (rank_of counts) ≡ counts
layout_at-rank counts is =
    let places = rising_places counts in
    let many : length places ≡ sum counts = length-rising_places counts in
    let at : layout_at (length places) (sum_of_ways 1 places) ≡ counts_of places =
    layout_at-rise places (rising_places-rise counts) (rising_places-within counts is.places) (omega (arith, many, is.at_least_one)) (omega (arith, many, is.at_most_three)) in
    subst (λ (n : ℕ). layout_at n (rank_of counts) ≡ counts) many (at ∙ counts_of-rising_places counts is.places)

-- a position stands at its square rank
pub board_at-rank : (p : Placement) → IsPosition p → placement_at (sum p.mover) (square_rank_of p) ≡ p
board_at-rank p is =
    let n = layouts (sum p.mover) in
    let low : rank_of p.other < n = rw is.same (rank-below p.other is.other) in
    let row : square_rank_of p / n ≡ rank_of p.mover = div-mul-add (rank_of p.mover) n (rank_of p.other) low in
    let column : square_rank_of p % n ≡ rank_of p.other = mod-mul-add (rank_of p.mover) n (rank_of p.other) low in
    let mover : layout_at (sum p.mover) (square_rank_of p / n) ≡ p.mover = rw row (layout_at-rank p.mover is.mover) in
    let other : layout_at (sum p.mover) (square_rank_of p % n) ≡ p.other = rw column (rw is.same (layout_at-rank p.other is.other)) in
    λ i. record { mover = mover i; other = other i }

-- counting one square more
range-more : (q : ℕ → Bool) (n a b : ℕ) → a + n ≡ b → count_by q (range_with_len a (suc n)) ≡ count_by q (range_with_len a n) + one (q b)
range-more q zero a b e = omega (arith, ap (λ x. one (q x)) (let same : a ≡ b = omega arith in same))
range-more q (suc n) a b e =
    omega (arith, sum_by-cons (λ x. one (q x)) a (range_with_len (a + 1) (suc n)), sum_by-cons (λ x. one (q x)) a (range_with_len (a + 1) n), range-more q n (a + 1) b (omega arith))

pub live_below-none : (checkers : ℕ) → live_below checkers 0 ≡ 0
unfolding live_below
live_below-none checkers = refl

pub live_below-more : (checkers square : ℕ) → live_below checkers (square + 1) ≡ live_below checkers square + one (is_live (placement_at checkers square))
unfolding live_below
live_below-more checkers square = rw add-one (range-more (λ below. is_live (placement_at checkers below)) square 0 square (omega arith))

-- a position at a square counts where it is live
module _ (checkers square : ℕ) (p : Placement) (is : IsPosition p) (many : sum p.mover ≡ checkers) (at : square_rank_of p ≡ square) where
  at-square : placement_at checkers square ≡ p
  at-square = subst (λ (n : ℕ). placement_at checkers n ≡ p) at (subst (λ (n : ℕ). placement_at n (square_rank_of p) ≡ p) many (board_at-rank p is))

  pub live-counts : IsLive p → live_below checkers (square + 1) ≡ live_below checkers square + 1
  live-counts live =
      let passes : is_live (placement_at checkers square) ≡ true = subst (λ (q : Placement). is_live q ≡ true) (sym at-square) (from-live p live) in
      omega (arith, live_below-more checkers square, ap one passes)

  pub dead-counts : (IsLive p → ⊥) → live_below checkers (square + 1) ≡ live_below checkers square
  dead-counts dead =
      let fails : is_live (placement_at checkers square) ≡ false = subst (λ (q : Placement). is_live q ≡ false) (sym at-square) (false_from_ne_true _ (λ e. dead (live-from p e))) in
      omega (arith, live_below-more checkers square, ap one fails)

pub live_below-rises : (checkers m n : ℕ) → m ≤ n → live_below checkers m ≤ live_below checkers n
live_below-rises checkers = rises (live_below checkers) (λ n. rw (← add-one) (omega (arith, live_below-more checkers n)))

pub live_below-le : (checkers n : ℕ) → live_below checkers n ≤ n
live_below-le checkers zero = omega (arith, live_below-none checkers)
live_below-le checkers (suc n) = rw (← add-one) (omega (arith, live_below-more checkers n, live_below-le checkers n, one-le (is_live (placement_at checkers n))))

square-in : (p : Placement) → IsPosition p → square_rank_of p < layouts (sum p.mover) * layouts (sum p.mover)
square-in p is = square-below (layouts (sum p.mover)) (rank_of p.mover) (rank_of p.other) (rank-below p.mover is.mover) (rw is.same (rank-below p.other is.other))

-- a live rank is below the number of live positions
pub live-rank-in : (p : Placement) → IsPosition p → IsLive p → live_rank_of p < live_positions (sum p.mover)
live-rank-in p is live =
    let n = layouts (sum p.mover) in
    omega (arith, live-counts (sum p.mover) (square_rank_of p) p is refl refl live, live_below-rises (sum p.mover) (square_rank_of p + 1) (n * n) (omega (arith, square-in p is)))

live-order : (p q : Placement) → IsPosition p → IsLive p → sum p.mover ≡ sum q.mover → square_rank_of p < square_rank_of q → live_rank_of p < live_rank_of q
live-order p q is live same less =
    let more = live_below-rises (sum p.mover) (square_rank_of p + 1) (square_rank_of q) (omega (arith, less)) in
    let there : live_rank_of q ≡ live_below (sum p.mover) (square_rank_of q) = ap (λ n. live_below n (square_rank_of q)) (sym same) in
    omega (arith, live-counts (sum p.mover) (square_rank_of p) p is refl refl live, more, there)

-- live positions of as many checkers and of equal live rank are the same
pub live-same : (p q : Placement) → IsPosition p → IsPosition q → IsLive p → IsLive q → sum p.mover ≡ sum q.mover → live_rank_of p ≡ live_rank_of q → p ≡ q
live-same p q is_p is_q live_p live_q same e = elim (cases_order (square_rank_of p) (square_rank_of q)) [
  | inl equal ↦ positions-same p q is_p is_q same equal
  | inr other ↦ elim other [
    | inl less ↦ absurd (omega (arith, live-order p q is_p live_p same less))
    | inr more ↦ absurd (omega (arith, live-order q p is_q live_q (sym same) more))
  ]
]

-- a square whose live positions below are too few is in the square
pub square-left : (checkers size square rank seen : ℕ) → rank < live_below checkers size → seen ≤ rank → seen ≡ live_below checkers square → square < size
square-left checkers size square rank seen below few is = elim (cases_lt square size) [
  | inl inside ↦ inside
  | inr past ↦ absurd (omega (arith, live_below-rises checkers size square past))
]

-- all pairs of layouts fit a word
pub square-size : (checkers : ℕ) → 1 ≤ checkers → checkers ≤ 3 → layouts checkers * layouts checkers ≤ 10732176
square-size zero low high = absurd (omega arith)
square-size (suc zero) low high = rw layouts-one (omega arith)
square-size (suc (suc zero)) low high = rw layouts-two (omega arith)
square-size (suc (suc (suc zero))) low high = rw layouts-three (omega arith)
square-size (suc (suc (suc (suc n)))) low high = absurd (omega arith)
