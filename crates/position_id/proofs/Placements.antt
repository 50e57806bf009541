-- What is read of a placement by what stands on its points.
use Rattle.std.proofs.Common.{◌≡◌, ℕ, zero, suc, ◌+◌, ◌-◌, ◌<◌, ◌≤◌, Bool, true, false, not, ◌&&◌, nat_lt, slice_index, get_or, List, length, Ok, refl, sym, ◌∙◌, inl, inr, arith}
use Rattle.std.proofs.lemmas.Bool.{cases_lt, ne_eqb}
use Rattle.std.proofs.lemmas.Bool.Decides.{nat_tests}
use Rattle.std.proofs.lemmas.List.Folds.{list_any_at}
use Rattle.std.proofs.lemmas.List.FromFn.{length-range_with_len, get_or-range_with_len}
use Rattle.std.specs.List.{list_any, range_with_len}
use Rattle.std.specs.Prelude.{◌↔◌, IsTrue}
use Rattle.position_rank.specs.Placement.{Placement, AreApart, InPlay, IsLive}
use Rattle.position_rank.specs.Packed.{counts_of}
use Rattle.position_text.specs.Text.{share_point, all_off, read_placement, read_places, numbers_fit}

is_shared : Placement → ℕ → Bool
is_shared p point = nat_lt 0 (slice_index p.mover point) && nat_lt 0 (slice_index p.other (25 - point))

apart : (p : Placement) → share_point p ≡ false → AreApart p
unfolding share_point
apart p none point from to held = elim (cases_lt 0 (slice_index p.other (25 - point))) [
  | inl some ↦ (
      let at : get_or (range_with_len 1 24) (point - 1) 0 ≡ point = get_or-range_with_len 1 24 (point - 1) 0 (omega arith) ∙ omega arith in
      let shared = list_any_at (λ point. nat_lt 0 (slice_index p.mover point) && nat_lt 0 (slice_index p.other (25 - point))) (range_with_len 1 24) (point - 1) 0 (omega (arith, length-range_with_len 1 24)) in
      grind (arith, nat_tests, rw at at shared))
  | inr never ↦ omega arith
]

none-passes : (test : ℕ → Bool) (a n : ℕ) → ((i : ℕ) → a ≤ i → i < a + n → test i ≡ false) → list_any test (range_with_len a n) ≡ false
none-passes test a zero h = refl
none-passes test a (suc n) h = rw (h a (omega arith) (omega arith)) (none-passes test (a + 1) n (λ i low high. h i (omega arith) (omega arith)))

away : (a b : ℕ) → (0 < a → b ≡ 0) → (nat_lt 0 a && nat_lt 0 b) ≡ false
away a b h = elim (cases_lt 0 a) [
  | inl some ↦ (let none : b ≡ 0 = h some in grind (arith, nat_tests))
  | inr none ↦ grind (arith, nat_tests)
]

unshared : (p : Placement) → AreApart p → share_point p ≡ false
unfolding share_point is_shared
unshared p h = none-passes (is_shared p) 1 24 (λ i low high. away _ _ (h i low (omega arith)))

in_play : (counts : List ℕ) → all_off counts ≡ false → InPlay counts
in_play counts e same = grind (arith, nat_tests)

pub live-told : (p : Placement) → share_point p ≡ false → all_off p.mover ≡ false → all_off p.other ≡ false → IsLive p
live-told p shared mover other = record { apart = apart p shared; mover = in_play p.mover mover; other = in_play p.other other }

pub shared-told : (p : Placement) (answer : Bool) → IsTrue answer ↔ AreApart p → not answer ≡ share_point p
shared-told p true told = rw (unshared p (told.0 refl)) refl
shared-told p false told = shared (share_point p) refl where
  shared : (b : Bool) → share_point p ≡ b → true ≡ share_point p
  shared true e = sym e
  shared false e = cc (told.1 (apart p e))

pub read-live : (p : Placement) → IsLive p → read_placement p ≡ Ok p
read-live p live =
    let mover : all_off p.mover ≡ false = ne_eqb _ _ live.mover in
    let other : all_off p.other ≡ false = ne_eqb _ _ live.other in
    rw (unshared p live.apart, mover, other) refl

pub read-fitting : (mover other : List ℕ) → length mover ≡ length other → 1 ≤ length mover → length mover ≤ 3 → read_places mover other ≡ read_placement (record { mover = counts_of mover; other = counts_of other })
read-fitting mover other same low high =
    let fit : numbers_fit mover other ≡ true = grind (arith, nat_tests) in
    rw fit refl
