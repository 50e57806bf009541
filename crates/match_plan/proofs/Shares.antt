-- Shares of values that are known by their bounds.
use Rattle.std.proofs.Common.{◌^◌, ◌≡◌, ◌<◌, ◌≤◌, ◌+◌, ◌*◌, ℕ, ℤ, pos, ◌+ℤ◌, ◌-ℤ◌, ◌*ℤ◌, ◌≤ℤ◌, ◌<ℤ◌, inl, inr, ap, arith}
use Rattle.std.proofs.lemmas.Bool.{cases_lt}
use Rattle.std.proofs.lemmas.Int.{ints}
use Rattle.std.proofs.lemmas.Grind.{div_ceil_times}
use Rattle.std.proofs.Math.Nat.{mul-le-mul_left, mul-le-mul_right, div-mul-le_self, le_of_mul-le-mul_right}
use borrow.Author.Differences.{up, down}
use Rattle.match_plan.specs.declared.millionths.Millionths.{Millionths}
use Rattle.match_plan.specs.Quotients.{quotient_down, quotient_up, IsShare}
use Rattle.match_plan.specs.Points.{rise}

-- ---- quotients

pub down-below : (part whole : ℕ) → quotient_down part whole * whole ≤ 1000000 * part
down-below part whole = div-mul-le_self (1000000 * part) whole

pub up-above : (part whole : ℕ) → 0 < whole → 1000000 * part ≤ quotient_up part whole * whole
up-above part whole some = (div_ceil_times (1000000 * part) whole some).0

-- a part is no more than its whole
pub down-few : (part whole : ℕ) → 0 < whole → part ≤ whole → quotient_down part whole ≤ 1000000
down-few part whole some within = le_of_mul-le-mul_right (omega (arith, down-below part whole)) some

pub up-few : (part whole : ℕ) → 0 < whole → part ≤ whole → quotient_up part whole ≤ 1000000
up-few part whole some within = elim (cases_lt (quotient_up part whole) 1000001) [
  | inl few ↦ omega (arith, few)
  | inr many ↦ absurd (omega (arith, within, (div_ceil_times (1000000 * part) whole some).1, mul-le-mul_right whole many))
]

-- ---- differences

pub rise-is : (a b : ℤ) → a ≤ℤ b → b ≡ a +ℤ pos (rise a b)
rise-is a b h = grind (arith, ints)

pub rise-some : (a b : ℤ) → a <ℤ b → 0 < rise a b
rise-some a b h = grind (arith, ints)

pub times-rise : (s : ℕ) (a b : ℤ) → a ≤ℤ b → pos s *ℤ b ≡ pos s *ℤ a +ℤ pos (s * rise a b)
times-rise s a b h =
    let apart : up b + down a ≡ down b + up a + rise a b = omega (arith, ints, rise-is a b h) in
    omega (arith, ints, ap (λ (n : ℕ). s * n) apart)

-- ---- shares

pub share-low : (found d n s b : ℕ) (part whole : ℤ) → found * d ≤ 1000000 * n → found * b ≤ 1000000 * b → whole ≤ℤ pos (s * d + b) → pos (s * n + b) ≤ℤ part → (pos found *ℤ whole) ≤ℤ (pos 1000000 *ℤ part)
share-low found d n s b part whole least few most some =
    let scaled = mul-le-mul_left s least in
    let apart : up whole ≤ down whole + (s * d + b) = omega (arith, ints, most) in
    omega (arith, ints, some, few, scaled, mul-le-mul_left found apart)

pub share-high : (found d n s c : ℕ) (part whole : ℤ) → 1000000 * n ≤ found * d → found * c ≤ 1000000 * c → pos (s * d) ≤ℤ (whole +ℤ pos c) → (part +ℤ pos c) ≤ℤ pos (s * n) → (pos 1000000 *ℤ part) ≤ℤ (pos found *ℤ whole)
share-high found d n s c part whole greatest few most some =
    let scaled = mul-le-mul_left s greatest in
    let apart : s * d + down whole ≤ up whole + c = omega (arith, ints, most) in
    omega (arith, ints, some, few, scaled, mul-le-mul_left found apart)

-- a share of values in units is one of the same values in points
pub share-scaled : (found : Millionths) (x y : ℤ) → IsShare found (pos (2 ^ 32) *ℤ x) (pos (2 ^ 32) *ℤ y) → IsShare found x y
share-scaled found x y h =
    let apart : up (pos (2 ^ 32) *ℤ y) + 2 ^ 32 * down y ≡ down (pos (2 ^ 32) *ℤ y) + 2 ^ 32 * up y = omega (arith, ints) in
    record {
      some = omega (arith, ints, h.some);
      low = omega (arith, ints, h.low, ap (λ (n : ℕ). found.low * n) apart);
      high = omega (arith, ints, h.high, ap (λ (n : ℕ). found.high * n) apart);
    }

times-apart : (x y : ℤ) → pos (2 ^ 32) *ℤ x -ℤ pos (2 ^ 32) *ℤ y ≡ pos (2 ^ 32) *ℤ (x -ℤ y)
times-apart x y = omega (arith, ints)

pub share-of : (found : Millionths) (a b c d : ℤ) → IsShare found (pos (2 ^ 32) *ℤ a -ℤ pos (2 ^ 32) *ℤ b) (pos (2 ^ 32) *ℤ c -ℤ pos (2 ^ 32) *ℤ d) → IsShare found (a -ℤ b) (c -ℤ d)
share-of found a b c d h = share-scaled found (a -ℤ b) (c -ℤ d) (rw (times-apart a b, times-apart c d) at h)
