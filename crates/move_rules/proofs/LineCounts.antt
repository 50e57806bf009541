-- How many lines use all of some dice: at most three for each die, since at most three places hold a checker.
use Rattle.std.proofs.Common.{◌≡◌, ◌≤◌, ◌<◌, ◌+◌, ◌*◌, ℕ, zero, suc, List, [], ◌∷◌, ◌++◌, length, sum, take, get_or, Option, Some, None, inl, inr, refl, arith, length-append, add-one}
use Rattle.std.proofs.Math.Nat.{mul-le-mul_left, mul_comm}
use Rattle.std.proofs.lemmas.Bool.{cases_lt}
use Rattle.std.proofs.lemmas.List.Sums.{sum_by_more, sum_by-take-le}
use Rattle.std.specs.List.{flat_map}
use Rattle.position_rank.specs.Placement.{Placement}
use Rattle.move_rules.specs.Ends.{Line, after_move, down_from, places}
use Rattle.move_rules.specs.Listing.{full, full_from}
use Rattle.move_rules.specs.declared.play.Move.{Move}
use Rattle.move_rules.proofs.LinesAdded.{full_from-empty, full_from-none, full_from-some}
use Rattle.move_rules.proofs.EndsExact.{after_move-sound}
use Rattle.move_rules.proofs.StayLive.{mover-stays}

most : List ℕ → ℕ
most [] = 1
most (die ∷ dice) = 3 * most dice

-- where each place adds at most so many lines for each of its checkers
each_place : (F : ℕ → List Line) (counts : List ℕ) (bound : ℕ) → length counts ≡ 26 → ((k : ℕ) → 1 ≤ k → k ≤ 25 → length (F k) ≤ bound * get_or counts k 0)
    → (n : ℕ) → n ≤ 25 → length (flat_map F (down_from n)) ≤ bound * sum (take (n + 1) counts)
each_place F counts bound l each zero h = omega arith
each_place F counts bound l each (suc n) h =
    let here = each (suc n) (omega arith) h in
    let below = each_place F counts bound l each n (omega arith) in
    let more : sum (take (suc n + 1) counts) ≡ sum (take (suc n) counts) + get_or counts (suc n) 0 = sum_by_more (λ (x : ℕ). x) counts (suc n) 0 (omega arith) in
    let same : n + 1 ≡ suc n = add-one n in
    let below' : length (flat_map F (down_from n)) ≤ bound * sum (take (suc n) counts) = rw same at below in
    rw more (omega (arith, length-append (F (suc n)) (flat_map F (down_from n)), here, below'))

one_place : (die : ℕ) (later : List Move → Placement → List Line) (moves : List Move) (p : Placement) (bound from : ℕ) (o : Option Placement) → after_move p die from ≡ o
    → 0 < get_or p.mover from 0 → ((now : List Move) (q : Placement) → after_move p die from ≡ Some q → length (later now q) ≤ bound)
    → length (full_from later moves p die from) ≤ bound * get_or p.mover from 0
one_place die later moves p bound from None e held each = rw (full_from-none later moves p die from e) (omega arith)
one_place die later moves p bound from (Some q) e held each =
    let few = each (moves ++ record { from = from; die = die } ∷ []) q e in
    rw (full_from-some later moves p die from q e) (omega (arith, few, mul-le-mul_left bound held))

full-length : (dice : List ℕ) (moves : List Move) (p : Placement) → length p.mover ≡ 26 → sum p.mover ≤ 3 → length (full dice moves p) ≤ most dice
unfolding full places most
full-length [] moves p l few = omega arith
full-length (die ∷ dice) moves p l few =
    let later : (from : ℕ) → 1 ≤ from → from ≤ 25 → (now : List Move) (q : Placement) → after_move p die from ≡ Some q → length (full dice now q) ≤ most dice =
    λ from a b now q e. (let s = mover-stays p die from q l (after_move-sound p die from q a b e) in full-length dice now q s.0 (omega (arith, s.1, few))) in
    let each : (k : ℕ) → 1 ≤ k → k ≤ 25 → length (full_from (full dice) moves p die k) ≤ most dice * get_or p.mover k 0 =
    λ k a b. elim (cases_lt 0 (get_or p.mover k 0)) [
      | inl held ↦ one_place die (full dice) moves p (most dice) k (after_move p die k) refl held (later k a b)
      | inr none ↦ rw (full_from-empty (full dice) moves p die k (omega arith)) (omega arith)
    ] in
    let all = each_place (full_from (full dice) moves p die) p.mover (most dice) l each 25 (omega arith) in
    let whole : sum (take (25 + 1) p.mover) ≤ 3 = omega (arith, few, sum_by-take-le (λ (x : ℕ). x) p.mover 26) in
    omega (arith, all, mul-le-mul_left (most dice) whole, mul_comm (most dice) 3)

most-few : (dice : List ℕ) → length dice ≤ 4 → most dice ≤ 81
unfolding most
most-few [] h = omega arith
most-few (a ∷ []) h = omega arith
most-few (a ∷ b ∷ []) h = omega arith
most-few (a ∷ b ∷ c ∷ []) h = omega arith
most-few (a ∷ b ∷ c ∷ d ∷ []) h = omega arith
most-few (a ∷ b ∷ c ∷ d ∷ e ∷ dice) h = absurd (omega arith)

pub full-few : (dice : List ℕ) (p : Placement) → length p.mover ≡ 26 → sum p.mover ≤ 3 → length dice ≤ 4 → length (full dice [] p) ≤ 81
full-few dice p l few h = omega (arith, full-length dice [] p l few, most-few dice h)

pub pair-few : (a b : ℕ) (p : Placement) → length p.mover ≡ 26 → sum p.mover ≤ 3 → length (full (a ∷ b ∷ []) [] p) ≤ 9
unfolding most
pair-few a b p l few = full-length (a ∷ b ∷ []) [] p l few
