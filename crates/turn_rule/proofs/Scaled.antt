-- Comparisons of products: where so many times each of some values is at most so many times each of others, the same holds of the greatest
-- of them, of their sum over the rolls, and of the least.
use Rattle.std.proofs.Common.{◌≡◌, ℕ, ℤ, pos, ◌≤ℤ◌, ◌+ℤ◌, ◌*ℤ◌, neg_ℤ, ◌+◌, ◌*◌, List, [], ◌∷◌, map, refl, ◌⊎◌, inl, inr, sym, ap, ◌∙◌, arith}
use Rattle.std.specs.Int.{int_max, int_min}
use Rattle.std.proofs.lemmas.Int.{ints, clamps}
use Rattle.std.proofs.Math.Nat.{mul_comm}
use borrow.Author.Differences.{up, down}
use Rattle.position_rank.specs.Placement.{Placement}
use Rattle.roll_table.specs.Rolls.{Dice, IsRoll}
use Rattle.move_rules.specs.Ends.{legal_ends}
use Rattle.move_rules.specs.Listing.{Among}
use Rattle.directed_fixed.specs.Rounding.{floor_36, ceil_36}
use Rattle.turn_rule.specs.Turn.{greatest, sum_over, least}
use Rattle.turn_rule.proofs.Integers.{le_trans, mul_mono, add_mono, neg_le, distribute, regroup, floor_36_below}
use Rattle.turn_rule.proofs.Greatest.{AreRolls}

max_cases : (a b : ℤ) → (int_max a b ≡ a) ⊎ (int_max a b ≡ b)
max_cases a b = grind (arith, ints)

min_cases : (a b : ℤ) → (int_min a b ≡ a) ⊎ (int_min a b ≡ b)
min_cases a b = grind (arith, ints)

max_left : (a b : ℤ) → a ≤ℤ int_max a b
max_left a b = omega (arith, ints, clamps)

max_right : (a b : ℤ) → b ≤ℤ int_max a b
max_right a b = omega (arith, ints, clamps)

min_left : (a b : ℤ) → int_min a b ≤ℤ a
min_left a b = omega (arith, ints, clamps)

min_right : (a b : ℤ) → int_min a b ≤ℤ b
min_right a b = omega (arith, ints, clamps)

pub max-scaled : (c d : ℕ) (a b x y : ℤ) → (pos c *ℤ a) ≤ℤ (pos d *ℤ x) → (pos c *ℤ b) ≤ℤ (pos d *ℤ y) → (pos c *ℤ int_max a b) ≤ℤ (pos d *ℤ int_max x y)
max-scaled c d a b x y h k =
    let left = le_trans _ _ _ h (mul_mono d x (int_max x y) (max_left x y)) in
    let right = le_trans _ _ _ k (mul_mono d y (int_max x y) (max_right x y)) in
    elim (max_cases a b) [ inl first ↦ rw first left | inr second ↦ rw second right ]

pub min-scaled : (c d : ℕ) (a b x y : ℤ) → (pos c *ℤ a) ≤ℤ (pos d *ℤ x) → (pos c *ℤ b) ≤ℤ (pos d *ℤ y) → (pos c *ℤ int_min a b) ≤ℤ (pos d *ℤ int_min x y)
min-scaled c d a b x y h k =
    let left = le_trans _ _ _ (mul_mono c (int_min a b) a (min_left a b)) h in
    let right = le_trans _ _ _ (mul_mono c (int_min a b) b (min_right a b)) k in
    elim (min_cases x y) [ inl first ↦ rw first left | inr second ↦ rw second right ]

pub greatest-scaled : (c d : ℕ) (f g : Placement → ℤ) (qs : List Placement) → ((q : Placement) → Among q qs → (pos c *ℤ f q) ≤ℤ (pos d *ℤ g q)) → (pos c *ℤ greatest f qs) ≤ℤ (pos d *ℤ greatest g qs)
greatest-scaled c d f g [] h = omega (arith, ints)
greatest-scaled c d f g (q ∷ []) h = h q (inl refl)
greatest-scaled c d f g (q ∷ r ∷ rest) h = max-scaled c d _ _ _ _ (h q (inl refl)) (greatest-scaled c d f g (r ∷ rest) (λ x m. h x (inr m)))

pub least-scaled : (X : Type 0) (c d : ℕ) (f g : X → ℤ) (v w : ℤ) (xs : List X) → (pos c *ℤ v) ≤ℤ (pos d *ℤ w) → ((x : X) → Among x xs → (pos c *ℤ f x) ≤ℤ (pos d *ℤ g x)) → (pos c *ℤ least v (map f xs)) ≤ℤ (pos d *ℤ least w (map g xs))
least-scaled X c d f g v w [] h k = h
least-scaled X c d f g v w (x ∷ xs) h k = least-scaled X c d f g (int_min v (f x)) (int_min w (g x)) xs (min-scaled c d _ _ _ _ h (k x (inl refl))) (λ y m. k y (inr m))

swapped : (c w : ℕ) (a : ℤ) → pos c *ℤ (pos w *ℤ a) ≡ pos w *ℤ (pos c *ℤ a)
swapped c w a = regroup c w a ∙ ap (λ (n : ℕ). pos n *ℤ a) (mul_comm c w) ∙ sym (regroup w c a)

-- one factor more on both sides
pub times-scaled : (n c d : ℕ) (a x : ℤ) → (pos c *ℤ a) ≤ℤ (pos d *ℤ x) → (pos c *ℤ (pos n *ℤ a)) ≤ℤ (pos d *ℤ (pos n *ℤ x))
times-scaled n c d a x h = rw (swapped c n a, swapped d n x) (mul_mono n _ _ h)

plus_scaled : (c d : ℕ) (a b x y : ℤ) → (pos c *ℤ a) ≤ℤ (pos d *ℤ x) → (pos c *ℤ b) ≤ℤ (pos d *ℤ y) → (pos c *ℤ (a +ℤ b)) ≤ℤ (pos d *ℤ (x +ℤ y))
plus_scaled c d a b x y h k = rw (distribute c a b, distribute d x y) (add_mono _ _ _ _ h k)

pub sum-scaled : (c d : ℕ) (f g : Placement → ℤ) (p : Placement) → ((roll : Dice) (q : Placement) → IsRoll roll → Among q (legal_ends p roll) → (pos c *ℤ f q) ≤ℤ (pos d *ℤ g q)) → (rolls : List (Dice × ℕ)) → AreRolls rolls → (pos c *ℤ sum_over rolls f p) ≤ℤ (pos d *ℤ sum_over rolls g p)
sum-scaled c d f g p h [] a = omega (arith, ints)
sum-scaled c d f g p h (roll ∷ rolls) a =
    plus_scaled c d _ _ _ _ (times-scaled roll.1 c d _ _ (greatest-scaled c d f g (legal_ends p roll.0) (λ q. h roll.0 q a.0))) (sum-scaled c d f g p h rolls a.1)

negated : (c : ℕ) (a : ℤ) → pos c *ℤ neg_ℤ a ≡ neg_ℤ (pos c *ℤ a)
negated c a =
    let opposite : up (neg_ℤ a) + up a ≡ down (neg_ℤ a) + down a = omega (arith, ints) in
    let times : c * (up (neg_ℤ a) + up a) ≡ c * (down (neg_ℤ a) + down a) = ap (λ (n : ℕ). c * n) opposite in
    omega (arith, ints, times)

pub neg-scaled : (c d : ℕ) (a x : ℤ) → (pos d *ℤ x) ≤ℤ (pos c *ℤ a) → (pos c *ℤ neg_ℤ a) ≤ℤ (pos d *ℤ neg_ℤ x)
neg-scaled c d a x h = rw (negated c a, negated d x) (neg_le _ _ h)

-- both sides so many times as great, with the factor on other numbers
pub over-scaled : (n c d : ℕ) (a x : ℤ) → (pos c *ℤ a) ≤ℤ (pos d *ℤ x) → (pos (c * n) *ℤ a) ≤ℤ (pos d *ℤ (pos n *ℤ x))
over-scaled n c d a x h = rw (sym (regroup c n a)) (times-scaled n c d a x h)

pub under-scaled : (n c d : ℕ) (a x : ℤ) → (pos d *ℤ x) ≤ℤ (pos c *ℤ a) → (pos d *ℤ (pos n *ℤ x)) ≤ℤ (pos (c * n) *ℤ a)
under-scaled n c d a x h = rw (sym (regroup c n a)) (times-scaled n d c x a h)

-- a 36th that was rounded down still counts 36 times at most what it was taken of
pub floor-scaled : (c d : ℕ) (a x : ℤ) → (pos c *ℤ a) ≤ℤ (pos d *ℤ x) → (pos (36 * c) *ℤ floor_36 a) ≤ℤ (pos d *ℤ x)
floor-scaled c d a x h = le_trans _ _ _ (rw (sym (regroup 36 c (floor_36 a)), swapped 36 c (floor_36 a)) (mul_mono c _ _ (floor_36_below a))) h

-- and one that was rounded up at least that
pub ceil-scaled : (c d : ℕ) (a x : ℤ) → (pos d *ℤ x) ≤ℤ (pos c *ℤ a) → (pos d *ℤ x) ≤ℤ (pos (36 * c) *ℤ ceil_36 a)
ceil-scaled c d a x h = le_trans _ _ _ h (rw (sym (regroup 36 c (ceil_36 a)), swapped 36 c (ceil_36 a)) (mul_mono c _ _ (ceil_36_above a))) where
  ceil_36_above : (z : ℤ) → z ≤ℤ (pos 36 *ℤ ceil_36 z)
  ceil_36_above z = omega (arith, ints, floor_36_below (neg_ℤ z))
