-- Laws of the points of both sides as bits.
use Rattle.std.proofs.Common.{◌≡◌, ◌≢◌, ℕ, ◌+◌, ◌-◌, ◌*◌, ◌%◌, ◌^◌, ◌<◌, ◌≤◌, ◌↔◌, min, max, IsTrue, Bool, true, false, not, bit_and, bit_or, get_or, ltb, refl, ap, sym, subst, ◌∙◌, inl, inr, arith}
use Rattle.std.specs.Int.{bit_at, from_bool}
use Rattle.std.proofs.Math.Nat.{mod-le}
use Rattle.std.proofs.lemmas.Bool.{cases_eq, cases_lt, lt-ltb, ltb-true, false≢true}
use Rattle.std.proofs.lemmas.Nat.{or_lt, pow_below}
use Rattle.std.proofs.lemmas.Nat.Bits.{bit_at_and, bit_at-zero, bit_at-lt, bit_at_above, same_from_bits}
use Rattle.position_rank.specs.Placement.{Placement, IsLive}
use Rattle.position_rank.specs.Points.{AreMoverPoints, AreOtherPoints}

-- a bit below the 26th keeps a number below 2 ^ 26
pub marked-within : (n k : ℕ) → n < 2 ^ 26 → k ≤ 25 → bit_or n (1 * 2 ^ k % 2 ^ 32) < 2 ^ 26
marked-within n k within low =
    or_lt 26 n (1 * 2 ^ k % 2 ^ 32) within (omega (arith, mod-le (1 * 2 ^ k) (2 ^ 32), pow_below k 26 (omega arith)))

-- no bit is set in both numbers
abbrev AreDisjoint : ℕ → ℕ → Type 0
AreDisjoint a b = (i : ℕ) → min (bit_at a i) (bit_at b i) ≡ 0

disjoint-from : (a b : ℕ) → bit_and a b ≡ 0 → AreDisjoint a b
disjoint-from a b none = λ i. sym (bit_at_and a b i) ∙ (ap (λ n. bit_at n i) none ∙ bit_at-zero i)

from-disjoint : (a b : ℕ) → AreDisjoint a b → bit_and a b ≡ 0
from-disjoint a b apart = same_from_bits (bit_and a b) 0 (λ i. bit_at_and a b i ∙ (apart i ∙ sym (bit_at-zero i)))

-- points that have no bit in common are those of a live position, and the other way round
module _ (m o : ℕ) (p : Placement) (mover : AreMoverPoints m p.mover) (other : AreOtherPoints o p.other) where
  mover-held : (point : ℕ) → 1 ≤ point → point ≤ 24 → 0 < get_or p.mover point 0 → bit_at m (25 - point) ≡ 1
  mover-held point from to held =
      let mirrored : 25 - (25 - point) ≡ point = omega arith in
      (mover.points (25 - point) (omega arith) (omega arith)).1 (subst (λ (n : ℕ). 0 < get_or p.mover n 0) (sym mirrored) held)

  pub live-from-points : bit_and m o ≡ 0 → IsLive p
  live-from-points none =
      let clear = disjoint-from m o none in
      record {
        apart = λ point from to held. elim (cases_lt 0 (get_or p.other (25 - point) 0)) [
          | inl met ↦ absurd (omega (arith, clear (25 - point), mover-held point from to held, (other.points (25 - point) (omega arith) (omega arith)).1 met))
          | inr none ↦ omega arith
        ];
        mover = mover.highest.0 (omega (arith, clear 25, other.highest));
        other = other.lowest.0 (omega (arith, clear 0, mover.lowest));
      }

  inner-clear : IsLive p → (i : ℕ) → 1 ≤ i → i ≤ 24 → min (bit_at m i) (bit_at o i) ≡ 0
  inner-clear live i from to = elim (cases_lt 0 (bit_at m i)) [
    | inr none ↦ omega arith
    | inl set ↦ elim (cases_lt 0 (bit_at o i)) [
      | inr none ↦ omega arith
      | inl met ↦ (
          let mirrored : 25 - (25 - i) ≡ i = omega arith in
          let held : 0 < get_or p.mover (25 - i) 0 = (mover.points i from to).0 (omega (arith, set, bit_at-lt m i)) in
          let empty : get_or p.other i 0 ≡ 0 = subst (λ (n : ℕ). get_or p.other n 0 ≡ 0) mirrored (live.apart (25 - i) (omega arith) (omega arith) held) in
          absurd (omega (arith, empty, (other.points i from to).0 (omega (arith, met, bit_at-lt o i)))))
    ]
  ]

  clear-at : IsLive p → (i : ℕ) → min (bit_at m i) (bit_at o i) ≡ 0
  clear-at live i = elim (cases_lt 25 i) [
    | inl above ↦ omega (arith, bit_at_above m 26 i mover.within above)
    | inr within ↦ elim (cases_eq i 0) [
      | inl lowest ↦ subst (λ (n : ℕ). min (bit_at m n) (bit_at o n) ≡ 0) (sym lowest) (omega (arith, other.lowest.1 live.other))
      | inr more ↦ elim (cases_eq i 25) [
        | inl highest ↦ subst (λ (n : ℕ). min (bit_at m n) (bit_at o n) ≡ 0) (sym highest) (omega (arith, mover.highest.1 live.mover))
        | inr inner ↦ inner-clear live i (omega arith) (omega arith)
      ]
    ]
  ]

  pub points-from-live : IsLive p → bit_and m o ≡ 0
  points-from-live live = from-disjoint m o (clear-at live)

-- the bits of the points below this one are set where checkers stand, and those from it to 24 aren't
pub record AreMarked (bits : ℕ) (held : ℕ → ℕ) (point : ℕ) : Type 0 where
  pub within : bits < 2 ^ 26
  pub below : (p : ℕ) → 1 ≤ p → p < point → (bit_at bits p ≡ 1) ↔ (0 < held p)
  pub from : (p : ℕ) → point ≤ p → p ≤ 24 → bit_at bits p ≡ 0

from_bool-one : (b : Bool) → from_bool b ≡ 1 → b ≡ true
from_bool-one true e = refl
from_bool-one false e = absurd (omega (arith, e))

pub marked-more : (bits next : ℕ) (held : ℕ → ℕ) (point : ℕ) (mark : Bool) → 1 ≤ point → point ≤ 24 → mark ≡ ltb 0 (held point)
    → AreMarked bits held point → next < 2 ^ 26 → bit_at next point ≡ max (bit_at bits point) (from_bool mark) → ((other : ℕ) → other ≢ point → bit_at next other ≡ bit_at bits other)
    → AreMarked next held (point + 1)
marked-more bits next held point mark from to is marked within at same =
    let clear : bit_at bits point ≡ 0 = marked.from point (omega arith) to in
    let bit : bit_at next point ≡ from_bool mark = omega (arith, at, clear) in
    record {
      within = within;
      below = λ p low high. elim (cases_eq p point) [
        | inl here ↦ subst (λ (n : ℕ). (bit_at next n ≡ 1) ↔ (0 < held n)) (sym here) (
          λ set. ltb-true 0 (held point) (sym is ∙ from_bool-one mark (sym bit ∙ set)),
          λ stands. bit ∙ ap from_bool (is ∙ lt-ltb 0 (held point) stands),
        )
        | inr other ↦ rw (same p other) (marked.below p low (omega arith))
      ];
      from = λ p low high. same p (λ e. absurd (omega (arith, e))) ∙ marked.from p (omega arith) high;
    }

-- before the first point none is marked
pub marked-none : (bits : ℕ) (held : ℕ → ℕ) → bits < 2 ^ 26 → ((p : ℕ) → 1 ≤ p → p ≤ 24 → bit_at bits p ≡ 0) → AreMarked bits held 1
marked-none bits held within clear = record {
  within = within;
  below = λ p low high. absurd (omega (arith, low, high));
  from = clear;
}

-- the bit that tells that a side isn't in play
pub end-bit : (playing : Bool) (P : Type 0) (before bit : ℕ) → before ≡ 0 → bit ≡ max before (from_bool (not playing)) → IsTrue playing ↔ P → (bit ≡ 0) ↔ P
end-bit true P before bit none is right = (λ clear. right.0 refl, λ plays. omega (arith, none, is))
end-bit false P before bit none is right = (λ clear. absurd (omega (arith, none, is, clear)), λ plays. absurd (false≢true (right.1 plays)))
