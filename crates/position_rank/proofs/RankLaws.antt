-- Laws of ranks.
use Rattle.std.proofs.Common.{◌≡◌, ℕ, ◌+◌, ◌-◌, ◌*◌, ◌<◌, ◌≤◌, List, [], ◌∷◌, length, sum, All, refl, ap, sym, subst, ◌∙◌, inl, inr, arith}
use Rattle.std.proofs.lemmas.Bool.{cases_lt, cases_order}
use Rattle.std.proofs.lemmas.List.Elements.{All-cons, All-nil}
use Rattle.position_rank.specs.Placement.{Placement, IsLayout, IsPosition}
use Rattle.position_rank.specs.Packed.{counts_of, packed_counts, IsFalling}
use Rattle.position_rank.proofs.PlaceCounts.{sum-packed}
use Rattle.position_rank.specs.Ranks.{choose, layouts, rising_places, sum_of_ways, rank_of, square_rank_of}
use Rattle.position_rank.proofs.Choose.{choose-one, choose-two, choose-three, choose-two-more, choose-three-more, choose-two-rises, choose-three-rises, two-below, three-below, two-same, three-same}
use Rattle.position_rank.proofs.RisingPlaces.{often-cons, RiseFrom, rising_places-counts_of, counts_of-rising_places, rising_places-rise, rising_places-within, length-rising_places, counts_of-same}

-- the ranks of one, two and three places in rising order
pub ways-one : (x : ℕ) → sum_of_ways 1 (x ∷ []) ≡ x
ways-one x =
    let same : x + 1 - 1 ≡ x = omega arith in
    rw same (omega (arith, choose-one x))

pub ways-two : (x y : ℕ) → sum_of_ways 1 (x ∷ y ∷ []) ≡ x + choose (y + 1) 2
ways-two x y =
    let same : x + 1 - 1 ≡ x = omega arith in
    let second : y + 2 - 1 ≡ y + 1 = omega arith in
    rw (same, second) (omega (arith, choose-one x))

pub ways-three : (x y z : ℕ) → sum_of_ways 1 (x ∷ y ∷ z ∷ []) ≡ x + choose (y + 1) 2 + choose (z + 2) 3
ways-three x y z =
    let same : x + 1 - 1 ≡ x = omega arith in
    let second : y + 2 - 1 ≡ y + 1 = omega arith in
    let third : z + 3 - 1 ≡ z + 2 = omega arith in
    rw (same, second, third) (omega (arith, choose-one x))

within : (p : ℕ) (places : List ℕ) → p ≤ 25 → All (λ place. place ≤ 25) places → All (λ place. place ≤ 25) (p ∷ places)
within = All-cons (λ (place : ℕ). place ≤ 25)

-- the ranks of places in rising order
pub rank-of_one : (h : ℕ) → h ≤ 25 → rank_of (counts_of (h ∷ [])) ≡ h
rank-of_one h high =
    let places : rising_places (counts_of (h ∷ [])) ≡ h ∷ [] = rising_places-counts_of (h ∷ []) (omega arith, tt) (within h [] high (All-nil (λ (place : ℕ). place ≤ 25))) in
    rw places (ways-one h)

pub rank-of_two : (m h : ℕ) → m ≤ h → h ≤ 25 → rank_of (counts_of (m ∷ h ∷ [])) ≡ m + choose (h + 1) 2
rank-of_two m h upper high =
    let places : rising_places (counts_of (m ∷ h ∷ [])) ≡ m ∷ h ∷ [] =
    rising_places-counts_of (m ∷ h ∷ []) (omega arith, (upper, tt)) (within m (h ∷ []) (omega arith) (within h [] high (All-nil (λ (place : ℕ). place ≤ 25)))) in
    rw places (ways-two m h)

pub rank-of_three : (l m h : ℕ) → l ≤ m → m ≤ h → h ≤ 25 → rank_of (counts_of (l ∷ m ∷ h ∷ [])) ≡ l + choose (m + 1) 2 + choose (h + 2) 3
rank-of_three l m h lower upper high =
    let places : rising_places (counts_of (l ∷ m ∷ h ∷ [])) ≡ l ∷ m ∷ h ∷ [] =
    rising_places-counts_of (l ∷ m ∷ h ∷ []) (omega arith, (lower, (upper, tt)))
    (within l (m ∷ h ∷ []) (omega arith) (within m (h ∷ []) (omega arith) (within h [] high (All-nil (λ (place : ℕ). place ≤ 25))))) in
    rw places (ways-three l m h)

-- the rank of packed places
rank-one : (h m l c : ℕ) → IsFalling h m l c → c ≡ 1 → rank_of (packed_counts h m l c) ≡ h
unfolding packed_counts
rank-one h m l c packed one_checker = rw one_checker (rank-of_one h packed.within)

rank-two : (h m l c : ℕ) → IsFalling h m l c → c ≡ 2 → rank_of (packed_counts h m l c) ≡ m + choose (h + 1) 2
unfolding packed_counts
rank-two h m l c packed two =
    let turned : counts_of (h ∷ m ∷ []) ≡ counts_of (m ∷ h ∷ []) = counts_of-same (h ∷ m ∷ []) (m ∷ h ∷ []) (λ k low. omega (arith, often-cons k h (m ∷ []), often-cons k m [], often-cons k m (h ∷ []), often-cons k h [])) in
    rw two (rw turned (rank-of_two m h packed.upper packed.within))

rank-three : (h m l c : ℕ) → IsFalling h m l c → c ≡ 3 → rank_of (packed_counts h m l c) ≡ l + choose (m + 1) 2 + choose (h + 2) 3
unfolding packed_counts
rank-three h m l c packed three =
    let turned : counts_of (h ∷ m ∷ l ∷ []) ≡ counts_of (l ∷ m ∷ h ∷ []) =
    counts_of-same (h ∷ m ∷ l ∷ []) (l ∷ m ∷ h ∷ [])
    (λ k low. omega (arith, often-cons k h (m ∷ l ∷ []), often-cons k m (l ∷ []), often-cons k l [], often-cons k l (m ∷ h ∷ []), often-cons k m (h ∷ []), often-cons k h [])) in
    rw three (rw turned (rank-of_three l m h packed.lower packed.upper packed.within))

-- ranks are below the number of layouts
pub one-in-layouts : (h : ℕ) → h ≤ 25 → h < layouts 1
one-in-layouts h high = omega (arith, choose-one 26)

pub two-in-layouts : (m h : ℕ) → m ≤ h → h ≤ 25 → m + choose (h + 1) 2 < layouts 2
two-in-layouts m h low high =
    let same : h + 1 + 1 ≡ h + 2 = omega arith in
    omega (arith, two-below m h low, subst (λ (n : ℕ). choose n 2 ≤ choose 27 2) same (choose-two-rises (h + 1) 26 (omega arith)))

pub three-in-layouts : (l m h : ℕ) → l ≤ m → m ≤ h → h ≤ 25 → l + choose (m + 1) 2 + choose (h + 2) 3 < layouts 3
three-in-layouts l m h low middle high =
    let same : h + 1 + 2 ≡ h + 3 = omega arith in
    omega (arith, three-below l m h low middle, subst (λ (n : ℕ). choose n 3 ≤ choose 28 3) same (choose-three-rises (h + 1) 26 (omega arith)))

-- how many layouts there are
pub layouts-one : layouts 1 ≡ 26
layouts-one = choose-one 26

pub layouts-two : layouts 2 ≡ 351
layouts-two = omega (arith, choose-two 26)

pub layouts-three : layouts 3 ≡ 3276
layouts-three = omega (arith, choose-three 26)

-- a layout's cells, the counts that they stand for, and the ways that the code adds up
module _ (h m l c : ℕ) (counts : List ℕ) (packed : IsFalling h m l c) (view : packed_counts h m l c ≡ counts) where
  pub code-one : (x : ℕ) → c ≡ 1 → x ≡ choose (h + 1 - 1) 1 → (x ≡ rank_of counts) × (x < layouts (sum counts))
  code-one x one_checker e =
      let first : h + 1 - 1 ≡ h = omega arith in
      let is : x ≡ h = e ∙ rw first (choose-one h) in
      let all : sum counts ≡ 1 = rw (← view) (sum-packed h m l c packed ∙ one_checker) in
      (rw (← view) (is ∙ sym (rank-one h m l c packed one_checker)), rw all (omega (arith, one-in-layouts h packed.within)))

  pub code-two : (x y : ℕ) → c ≡ 2 → x ≡ choose (m + 1 - 1) 1 → y ≡ choose (h + 2 - 1) 2 → (x + y ≡ rank_of counts) × (x + y < layouts (sum counts))
  code-two x y two e f =
      let first : m + 1 - 1 ≡ m = omega arith in
      let second : h + 2 - 1 ≡ h + 1 = omega arith in
      let low : x ≡ m = e ∙ rw first (choose-one m) in
      let high : y ≡ choose (h + 1) 2 = f ∙ rw second refl in
      let all : sum counts ≡ 2 = rw (← view) (sum-packed h m l c packed ∙ two) in
      (rw (← view) (omega (arith, low, high, rank-two h m l c packed two)), rw all (omega (arith, two-in-layouts m h packed.upper packed.within)))

  pub code-three : (x y z : ℕ) → c ≡ 3 → x ≡ choose (l + 1 - 1) 1 → y ≡ choose (m + 2 - 1) 2 → z ≡ choose (h + 3 - 1) 3 → (x + y + z ≡ rank_of counts) × (x + y + z < layouts (sum counts))
  code-three x y z three e f g =
      let first : l + 1 - 1 ≡ l = omega arith in
      let second : m + 2 - 1 ≡ m + 1 = omega arith in
      let third : h + 3 - 1 ≡ h + 2 = omega arith in
      let low : x ≡ l = e ∙ rw first (choose-one l) in
      let middle : y ≡ choose (m + 1) 2 = f ∙ rw second refl in
      let high : z ≡ choose (h + 2) 3 = g ∙ rw third refl in
      let all : sum counts ≡ 3 = rw (← view) (sum-packed h m l c packed ∙ three) in
      (rw (← view) (omega (arith, low, middle, high, rank-three h m l c packed three)), rw all (omega (arith, three-in-layouts l m h packed.lower packed.upper packed.within)))

-- rising places of equal number and rank are the same
ways-same : (ps qs : List ℕ) → RiseFrom 0 ps → RiseFrom 0 qs → length ps ≡ length qs → length ps ≤ 3 → sum_of_ways 1 ps ≡ sum_of_ways 1 qs → ps ≡ qs
ways-same [] [] r s same short e = refl
ways-same [] (q ∷ qs) r s same short e = absurd (omega (arith, same))
ways-same (p ∷ ps) [] r s same short e = absurd (omega (arith, same))
ways-same (a ∷ []) (b ∷ []) r s same short e = ap (λ x. x ∷ []) (sym (ways-one a) ∙ (e ∙ ways-one b))
ways-same (a ∷ []) (b ∷ q ∷ qs) r s same short e = absurd (omega (arith, same))
ways-same (a ∷ p ∷ ps) (b ∷ []) r s same short e = absurd (omega (arith, same))
ways-same (a ∷ b ∷ []) (x ∷ y ∷ []) r s same short e =
    let parts = two-same a b x y r.1.0 s.1.0 (sym (ways-two a b) ∙ (e ∙ ways-two x y)) in
    cc
ways-same (a ∷ b ∷ []) (x ∷ y ∷ q ∷ qs) r s same short e = absurd (omega (arith, same))
ways-same (a ∷ b ∷ p ∷ ps) (x ∷ y ∷ []) r s same short e = absurd (omega (arith, same))
ways-same (a ∷ b ∷ d ∷ []) (x ∷ y ∷ z ∷ []) r s same short e =
    let parts = three-same a b d x y z r.1.0 r.1.1.0 s.1.0 s.1.1.0 (sym (ways-three a b d) ∙ (e ∙ ways-three x y z)) in
    cc
ways-same (a ∷ b ∷ d ∷ []) (x ∷ y ∷ z ∷ q ∷ qs) r s same short e = absurd (omega (arith, same))
ways-same (a ∷ b ∷ d ∷ p ∷ ps) (x ∷ y ∷ z ∷ qs) r s same short e = absurd (omega (arith, short))

-- layouts of as many checkers and of equal rank are the same
pub layouts-same : (a b : List ℕ) → IsLayout a → IsLayout b → sum a ≡ sum b → rank_of a ≡ rank_of b → a ≡ b
layouts-same a b is_a is_b same e =
    let places : rising_places a ≡ rising_places b =
    ways-same (rising_places a) (rising_places b) (rising_places-rise a) (rising_places-rise b)
    (length-rising_places a ∙ (same ∙ sym (length-rising_places b))) (omega (arith, length-rising_places a, is_a.at_most_three)) e in
    sym (counts_of-rising_places a is_a.places) ∙ (ap counts_of places ∙ counts_of-rising_places b is_b.places)

ways-below : (ps : List ℕ) → RiseFrom 0 ps → All (λ place. place ≤ 25) ps → 1 ≤ length ps → length ps ≤ 3 → sum_of_ways 1 ps < layouts (length ps)
ways-below [] r all low short = absurd (omega (arith, low))
ways-below (a ∷ []) r all low short = rw (ways-one a) (one-in-layouts a (all 0 0 (omega arith)))
ways-below (a ∷ b ∷ []) r all low short = rw (ways-two a b) (two-in-layouts a b r.1.0 (all 1 0 (omega arith)))
ways-below (a ∷ b ∷ d ∷ []) r all low short = rw (ways-three a b d) (three-in-layouts a b d r.1.0 r.1.1.0 (all 2 0 (omega arith)))
ways-below (a ∷ b ∷ d ∷ p ∷ ps) r all low short = absurd (omega (arith, short))

pub rank-below : (counts : List ℕ) → IsLayout counts → rank_of counts < layouts (sum counts)
rank-below counts is =
    let many = length-rising_places counts in
    subst (λ (n : ℕ). rank_of counts < layouts n) many
    (ways-below (rising_places counts) (rising_places-rise counts) (rising_places-within counts is.places) (omega (arith, many, is.at_least_one)) (omega (arith, many, is.at_most_three)))

times-more : (a x n : ℕ) → a < x → a * n + n ≤ x * n
times-more a x n h = grind arith

-- two numbers below a bound are had back from their place in a square
square-same : (n a b x y : ℕ) → b < n → y < n → a * n + b ≡ x * n + y → (a ≡ x) × (b ≡ y)
square-same n a b x y low high e = elim (cases_order a x) [
  | inl same ↦ (same, omega (arith, ap (λ k. k * n) same))
  | inr other ↦ elim other [
    | inl less ↦ absurd (omega (arith, times-more a x n less))
    | inr more ↦ absurd (omega (arith, times-more x a n more))
  ]
]

-- a number in a square is below its size
pub square-below : (n a b : ℕ) → a < n → b < n → a * n + b < n * n
square-below n a b h k = omega (arith, times-more a n n h)

-- positions of as many checkers and of equal square rank are the same
pub positions-same : (p q : Placement) → IsPosition p → IsPosition q → sum p.mover ≡ sum q.mover → square_rank_of p ≡ square_rank_of q → p ≡ q
positions-same p q is_p is_q same e =
    let n = layouts (sum p.mover) in
    let size : n ≡ layouts (sum q.mover) = ap layouts same in
    let low : rank_of p.other < n = rw is_p.same (rank-below p.other is_p.other) in
    let high : rank_of q.other < n = rw (same, is_q.same) (rank-below q.other is_q.other) in
    let parts = square-same n (rank_of p.mover) (rank_of p.other) (rank_of q.mover) (rank_of q.other) low high (e ∙ ap (λ k. rank_of q.mover * k + rank_of q.other) (sym size)) in
    let mover : p.mover ≡ q.mover = layouts-same p.mover q.mover is_p.mover is_q.mover same parts.0 in
    let other : p.other ≡ q.other = layouts-same p.other q.other is_p.other is_q.other (sym is_p.same ∙ (same ∙ is_q.same)) parts.1 in
    λ i. record { mover = mover i; other = other i }

-- what is left below the highest place of two
pub two-left : (r h w : ℕ) → h ≤ 25 → r < choose (h + 2) 2 → choose (h + 2 - 1) 2 ≤ r → w ≡ choose (h + 2 - 1) 2
    → (r - w ≤ h) × (rank_of (counts_of ((r - w) ∷ h ∷ [])) ≡ r)
two-left r h w high to from e =
    let second : h + 2 - 1 ≡ h + 1 = omega arith in
    let is : w ≡ choose (h + 1) 2 = e ∙ rw second refl in
    let below : r - w ≤ h = omega (arith, is, choose-two-more h) in
    let above : w ≤ r = rw e from in
    (below, omega (arith, rank-of_two (r - w) h below high, is, above))

-- what is left below the highest place of three
pub three-left : (r h w : ℕ) → r < choose (h + 3) 3 → choose (h + 3 - 1) 3 ≤ r → w ≡ choose (h + 3 - 1) 3 → r - w < choose (h + 2) 2
three-left r h w to from e =
    let third : h + 3 - 1 ≡ h + 2 = omega arith in
    let is : w ≡ choose (h + 2) 3 = e ∙ rw third refl in
    let above : w ≤ r = rw e from in
    omega (arith, is, above, choose-three-more h)

pub left-fits : (r h : ℕ) → h ≤ 25 → r < choose (h + 2) 2 → r < choose (25 + 2) 2
left-fits r h high to =
    let same : h + 1 + 1 ≡ h + 2 = omega arith in
    omega (arith, to, subst (λ (n : ℕ). choose n 2 ≤ choose 27 2) same (choose-two-rises (h + 1) 26 (omega arith)))

pub three-made : (r h w m v : ℕ) → h ≤ 25 → r < choose (h + 3) 3 → choose (h + 3 - 1) 3 ≤ r → w ≡ choose (h + 3 - 1) 3
    → r - w < choose (m + 2) 2 → choose (m + 2 - 1) 2 ≤ r - w → v ≡ choose (m + 2 - 1) 2
    → (r - w - v ≤ m) × (rank_of (counts_of ((r - w - v) ∷ m ∷ h ∷ [])) ≡ r)
three-made r h w m v high to from e to_m from_m f =
    let second : m + 2 - 1 ≡ m + 1 = omega arith in
    let third : h + 3 - 1 ≡ h + 2 = omega arith in
    let is : w ≡ choose (h + 2) 3 = e ∙ rw third refl in
    let is_m : v ≡ choose (m + 1) 2 = f ∙ rw second refl in
    let above : w ≤ r = rw e from in
    let above_m : v ≤ r - w = rw f from_m in
    let low : r - w - v ≤ m = omega (arith, is_m, choose-two-more m) in
    let middle : m ≤ h = elim (cases_lt h m) [
      | inl past ↦ (
          let same : h + 1 + 1 ≡ h + 2 = omega arith in
          absurd (omega (arith, three-left r h w to from e, subst (λ (n : ℕ). choose n 2 ≤ choose (m + 1) 2) same (choose-two-rises (h + 1) m (omega arith)), above_m, is_m)))
      | inr before ↦ before
    ] in
    (low, omega (arith, rank-of_three (r - w - v) m h low middle high, is, is_m, above, above_m))
