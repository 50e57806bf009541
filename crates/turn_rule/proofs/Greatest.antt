-- The greatest value of a list, and sums over rolls.
use Rattle.std.proofs.Common.{◌≡◌, ◌<◌, ◌≤◌, ◌+◌, ◌++◌, ◌∙◌, Bool, true, false, cond, eqb, ap, ℕ, zero, suc, get_or, ℤ, pos, ◌≤ℤ◌, ◌+ℤ◌, ◌*ℤ◌, List, [], ◌∷◌, length, map, inl, inr, refl, subst, sym, arith}
use Rattle.std.specs.Int.{int_max}
use Rattle.std.proofs.lemmas.Int.{ints, clamps}
use Rattle.position_rank.specs.Placement.{Placement}
use Rattle.std.specs.List.{range_with_len}
use Rattle.roll_table.specs.Rolls.{Dice, IsRoll, weighted_roll, all_rolls}
use Rattle.move_rules.specs.Ends.{legal_ends}
use Rattle.move_rules.specs.Listing.{Among}
use Rattle.move_rules.proofs.Members.{flat_map-cases, map-cases, range-cases}
use Rattle.turn_rule.specs.Turn.{greatest, sum_over}
use Rattle.turn_rule.proofs.Integers.{le_refl, le_trans, max_mono, add_mono, mul_mono}

pub greatest-mono : (f g : Placement → ℤ) (qs : List Placement) → ((q : Placement) → Among q qs → f q ≤ℤ g q) → greatest f qs ≤ℤ greatest g qs
greatest-mono f g [] h = le_refl (pos 0)
greatest-mono f g (q ∷ []) h = h q (inl refl)
greatest-mono f g (q ∷ r ∷ rest) h = max_mono _ _ _ _ (h q (inl refl)) (greatest-mono f g (r ∷ rest) (λ x m. h x (inr m)))

max_upto : (x y b : ℤ) → x ≤ℤ b → y ≤ℤ b → int_max x y ≤ℤ b
max_upto x y b h k = omega (arith, ints, clamps)

max_from : (x y b : ℤ) → b ≤ℤ x → b ≤ℤ int_max x y
max_from x y b h = omega (arith, ints, clamps)

pub greatest-upto : (f : Placement → ℤ) (b : ℤ) → pos 0 ≤ℤ b → (qs : List Placement) → ((q : Placement) → Among q qs → f q ≤ℤ b) → greatest f qs ≤ℤ b
greatest-upto f b z [] h = z
greatest-upto f b z (q ∷ []) h = h q (inl refl)
greatest-upto f b z (q ∷ r ∷ rest) h = max_upto _ _ b (h q (inl refl)) (greatest-upto f b z (r ∷ rest) (λ x m. h x (inr m)))

pub greatest-from : (f : Placement → ℤ) (b : ℤ) → b ≤ℤ pos 0 → (qs : List Placement) → ((q : Placement) → Among q qs → b ≤ℤ f q) → b ≤ℤ greatest f qs
greatest-from f b z [] h = z
greatest-from f b z (q ∷ []) h = h q (inl refl)
greatest-from f b z (q ∷ r ∷ rest) h = max_from _ _ b (h q (inl refl))

-- each of some rolls is one of two dice
abbrev pub AreRolls : List (Dice × ℕ) → Type 0
AreRolls [] = Unit {0}
AreRolls (roll ∷ rolls) = IsRoll roll.0 × AreRolls rolls

all_right : (rolls : List (Dice × ℕ)) → ((roll : Dice × ℕ) → Among roll rolls → IsRoll roll.0) → AreRolls rolls
all_right [] h = tt
all_right (roll ∷ rolls) h = (h roll (inl refl), all_right rolls (λ r m. h r (inr m)))

pub roll-right : (roll : Dice × ℕ) → Among roll all_rolls → IsRoll roll.0
unfolding all_rolls
roll-right roll m =
    let a = flat_map-cases (λ high. map (weighted_roll high) (range_with_len 1 high)) roll (range_with_len 1 6) m in
    let b = map-cases (weighted_roll a.0) roll (range_with_len 1 a.0) a.2 in
    let high = range-cases 1 6 a.0 a.1 in
    let low = range-cases 1 a.0 b.0 b.1 in
    subst (λ (r : Dice × ℕ). IsRoll r.0) (sym b.2) (record { from = low.0; in_order = omega (arith, low.1); to = omega (arith, high.1) })

pub all_rolls-right : AreRolls all_rolls
all_rolls-right = all_right all_rolls roll-right

pub sum-mono : (f g : Placement → ℤ) (p : Placement) → ((roll : Dice) (q : Placement) → IsRoll roll → Among q (legal_ends p roll) → f q ≤ℤ g q) → (rolls : List (Dice × ℕ)) → AreRolls rolls → sum_over rolls f p ≤ℤ sum_over rolls g p
sum-mono f g p h [] a = le_refl (pos 0)
sum-mono f g p h (roll ∷ rolls) a =
    add_mono _ _ _ _ (mul_mono roll.1 _ _ (greatest-mono f g (legal_ends p roll.0) (λ q. h roll.0 q a.0))) (sum-mono f g p h rolls a.1)

-- in how many ways some rolls come together
abbrev pub total : List (Dice × ℕ) → ℕ
total [] = 0
total (roll ∷ rolls) = roll.1 + total rolls

pub total-all_rolls : total all_rolls ≡ 36
unfolding all_rolls
total-all_rolls = refl

spread : (w n : ℕ) (b : ℤ) → pos (w + n) *ℤ b ≡ pos w *ℤ b +ℤ pos n *ℤ b
spread w n b = omega (arith, ints)

pub sum-upto : (f : Placement → ℤ) (b : ℤ) → pos 0 ≤ℤ b → (p : Placement) → ((roll : Dice) (q : Placement) → IsRoll roll → Among q (legal_ends p roll) → f q ≤ℤ b) → (rolls : List (Dice × ℕ)) → AreRolls rolls → sum_over rolls f p ≤ℤ (pos (total rolls) *ℤ b)
sum-upto f b z p h [] a = omega (arith, ints)
sum-upto f b z p h (roll ∷ rolls) a =
    rw spread (add_mono _ _ _ _ (mul_mono roll.1 _ _ (greatest-upto f b z (legal_ends p roll.0) (λ q. h roll.0 q a.0))) (sum-upto f b z p h rolls a.1))

pub sum-from : (f : Placement → ℤ) (b : ℤ) → b ≤ℤ pos 0 → (p : Placement) → ((roll : Dice) (q : Placement) → IsRoll roll → Among q (legal_ends p roll) → b ≤ℤ f q) → (rolls : List (Dice × ℕ)) → AreRolls rolls → (pos (total rolls) *ℤ b) ≤ℤ sum_over rolls f p
sum-from f b z p h [] a = omega (arith, ints)
sum-from f b z p h (roll ∷ rolls) a =
    rw spread (add_mono _ _ _ _ (mul_mono roll.1 _ _ (greatest-from f b z (legal_ends p roll.0) (λ q. h roll.0 q a.0))) (sum-from f b z p h rolls a.1))

max_assoc : (a b c : ℤ) → int_max a (int_max b c) ≡ int_max (int_max a b) c
max_assoc a b c = omega (arith, ints, clamps)

pub greatest-append : (f : Placement → ℤ) (q r : Placement) (qs : List Placement) → greatest f ((q ∷ qs) ++ r ∷ []) ≡ int_max (greatest f (q ∷ qs)) (f r)
greatest-append f q r [] = refl
greatest-append f q r (s ∷ qs) = ap (λ (z : ℤ). int_max (f q) z) (greatest-append f s r qs) ∙ max_assoc (f q) (greatest f (s ∷ qs)) (f r)

max_left : (x y : ℤ) → x ≤ℤ int_max x y
max_left x y = omega (arith, ints, clamps)

max_right : (x y : ℤ) → y ≤ℤ int_max x y
max_right x y = omega (arith, ints, clamps)

pub greatest-bound : (f : Placement → ℤ) (q : Placement) (qs : List Placement) → Among q qs → f q ≤ℤ greatest f qs
greatest-bound f q [] m = absurd m
greatest-bound f q (r ∷ []) (inl e) = rw e (le_refl (f r))
greatest-bound f q (r ∷ []) (inr m) = absurd m
greatest-bound f q (r ∷ s ∷ qs) (inl e) = rw e (max_left (f r) (greatest f (s ∷ qs)))
greatest-bound f q (r ∷ s ∷ qs) (inr m) = le_trans _ _ _ (greatest-bound f q (s ∷ qs) m) (max_right (f r) (greatest f (s ∷ qs)))

greatest-least : (f : Placement → ℤ) (b : ℤ) (q : Placement) (qs : List Placement) → ((r : Placement) → Among r (q ∷ qs) → f r ≤ℤ b) → greatest f (q ∷ qs) ≤ℤ b
greatest-least f b q [] h = h q (inl refl)
greatest-least f b q (r ∷ qs) h = max_upto _ _ b (h q (inl refl)) (greatest-least f b r qs (λ x m. h x (inr m)))

both_ways : (a b : ℤ) → a ≤ℤ b → b ≤ℤ a → a ≡ b
both_ways a b h k = omega (arith, ints)

-- lists with the same members have the same greatest value
pub greatest-same : (f : Placement → ℤ) (qs rs : List Placement) → ((q : Placement) → Among q qs → Among q rs) → ((r : Placement) → Among r rs → Among r qs) → greatest f qs ≡ greatest f rs
greatest-same f [] [] h k = refl
greatest-same f [] (r ∷ rs) h k = absurd (k r (inl refl))
greatest-same f (q ∷ qs) [] h k = absurd (h q (inl refl))
greatest-same f (q ∷ qs) (r ∷ rs) h k =
    both_ways _ _ (greatest-least f _ q qs (λ x m. greatest-bound f x (r ∷ rs) (h x m))) (greatest-least f _ r rs (λ x m. greatest-bound f x (q ∷ qs) (k x m)))

-- no roll comes in more than two ways
pub all_rolls-small : (roll : Dice × ℕ) → Among roll all_rolls → roll.1 ≤ 2
unfolding all_rolls
all_rolls-small roll m =
    let a = flat_map-cases (λ high. map (weighted_roll high) (range_with_len 1 high)) roll (range_with_len 1 6) m in
    let b = map-cases (weighted_roll a.0) roll (range_with_len 1 a.0) a.2 in
    subst (λ (r : Dice × ℕ). r.1 ≤ 2) (sym b.2) (small (eqb a.0 b.0)) where
      small : (b : Bool) → cond b 1 2 ≤ 2
      small true = omega arith
      small false = omega arith

pub at_roll : (rolls : List (Dice × ℕ)) (i : ℕ) (roll : Dice × ℕ) → i < length rolls → roll ≡ get_or rolls i roll → Among roll rolls
at_roll [] i roll h e = absurd (omega arith)
at_roll (r ∷ rolls) zero roll h e = inl e
at_roll (r ∷ rolls) (suc i) roll h e = inr (at_roll rolls i roll (omega arith) e)

pub length-all_rolls : length all_rolls ≡ 21
unfolding all_rolls
length-all_rolls = refl

-- one of the 21 rolls
pub roll_at : (rolls : List (Dice × ℕ)) (i : ℕ) (roll : Dice × ℕ) → rolls ≡ all_rolls → i < 21 → roll ≡ get_or rolls i roll → (i < length all_rolls) × (roll ≡ get_or all_rolls i roll) × (roll.1 ≤ 2)
roll_at rolls i roll same h e =
    let here : i < length all_rolls = omega (arith, length-all_rolls) in
    let at : roll ≡ get_or all_rolls i roll = subst (λ (xs : List (Dice × ℕ)). roll ≡ get_or xs i roll) same e in
    (here, at, all_rolls-small roll (at_roll all_rolls i roll here at))
