-- Order and whole quotients of signed numbers.
use Rattle.std.proofs.Common.{◌≡◌, ◌≤◌, ◌+◌, ◌*◌, ℕ, ℤ, pos, negsuc, neg_ℤ, ◌+ℤ◌, ◌*ℤ◌, ◌≤ℤ◌, ◌<ℤ◌, arith, ap}
use Rattle.std.specs.Int.{int_max, int_min}
use Rattle.std.proofs.lemmas.Int.{ints, clamps}
use Rattle.std.proofs.Math.Nat.{mul-le-mul_left}
use borrow.Author.Differences.{up, down}
use Rattle.directed_fixed.specs.Rounding.{floor_36, ceil_36}

pub le_refl : (a : ℤ) → a ≤ℤ a
le_refl a = omega (arith, ints)

pub le_trans : (a b c : ℤ) → a ≤ℤ b → b ≤ℤ c → a ≤ℤ c
le_trans a b c h k = omega (arith, ints)

pub neg_le : (a b : ℤ) → a ≤ℤ b → neg_ℤ b ≤ℤ neg_ℤ a
neg_le a b h = omega (arith, ints)

pub max_mono : (a b c d : ℤ) → a ≤ℤ c → b ≤ℤ d → int_max a b ≤ℤ int_max c d
max_mono a b c d h k = omega (arith, ints, clamps)

pub min_mono : (a b c d : ℤ) → a ≤ℤ c → b ≤ℤ d → int_min a b ≤ℤ int_min c d
min_mono a b c d h k = omega (arith, ints, clamps)

pub add_mono : (a b c d : ℤ) → a ≤ℤ c → b ≤ℤ d → (a +ℤ b) ≤ℤ (c +ℤ d)
add_mono a b c d h k = omega (arith, ints)

pub mul_mono : (n : ℕ) (a b : ℤ) → a ≤ℤ b → (pos n *ℤ a) ≤ℤ (pos n *ℤ b)
mul_mono n a b h =
    let apart : up a + down b ≤ up b + down a = omega (arith, ints) in
    omega (arith, ints, mul-le-mul_left n apart)

-- the greatest whole number that isn't above the quotient
pub floor_36_below : (z : ℤ) → (pos 36 *ℤ floor_36 z) ≤ℤ z
floor_36_below (pos n) = omega (arith, ints)
floor_36_below (negsuc n) = omega (arith, ints)

pub floor_36_above : (z : ℤ) → z <ℤ (pos 36 *ℤ floor_36 z +ℤ pos 36)
floor_36_above (pos n) = omega (arith, ints)
floor_36_above (negsuc n) = omega (arith, ints)

pub floor_36_mono : (a b : ℤ) → a ≤ℤ b → floor_36 a ≤ℤ floor_36 b
floor_36_mono a b h = omega (arith, ints, floor_36_below a, floor_36_above b)

pub ceil_36_mono : (a b : ℤ) → a ≤ℤ b → ceil_36 a ≤ℤ ceil_36 b
ceil_36_mono a b h = neg_le _ _ (floor_36_mono _ _ (neg_le _ _ h))

-- ---- products with natural numbers

pub distribute : (c : ℕ) (x y : ℤ) → pos c *ℤ (x +ℤ y) ≡ pos c *ℤ x +ℤ pos c *ℤ y
distribute c x y =
    let sum : up (x +ℤ y) + (down x + down y) ≡ down (x +ℤ y) + (up x + up y) = omega (arith, ints) in
    let times : c * (up (x +ℤ y) + (down x + down y)) ≡ c * (down (x +ℤ y) + (up x + up y)) = ap (λ (n : ℕ). c * n) sum in
    omega (arith, ints, times)

pub regroup : (c d : ℕ) (x : ℤ) → pos c *ℤ (pos d *ℤ x) ≡ pos (c * d) *ℤ x
regroup c d x =
    let product : up (pos d *ℤ x) + d * down x ≡ down (pos d *ℤ x) + d * up x = omega (arith, ints) in
    let times : c * (up (pos d *ℤ x) + d * down x) ≡ c * (down (pos d *ℤ x) + d * up x) = ap (λ (n : ℕ). c * n) product in
    omega (arith, ints, times)

pub times-neg : (w : ℕ) (b : ℤ) → pos w *ℤ neg_ℤ b ≡ neg_ℤ (pos w *ℤ b)
times-neg w b =
    let apart : up (neg_ℤ b) + up b ≡ down (neg_ℤ b) + down b = omega (arith, ints) in
    omega (arith, ints, ap (λ (n : ℕ). w * n) apart)

-- a whole quotient by 36 is the floor, or the ceiling
pub floor_36-is : (z q : ℤ) → (pos 36 *ℤ q) ≤ℤ z → z <ℤ (pos 36 *ℤ q +ℤ pos 36) → q ≡ floor_36 z
floor_36-is z q h k = omega (arith, ints, floor_36_below z, floor_36_above z)

pub ceil_36-is : (z q : ℤ) → z ≤ℤ (pos 36 *ℤ q) → (pos 36 *ℤ q) <ℤ (z +ℤ pos 36) → q ≡ ceil_36 z
ceil_36-is z q h k = omega (arith, ints, floor_36_below (neg_ℤ z), floor_36_above (neg_ℤ z))
