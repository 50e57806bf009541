-- A move needs to know the mover's checkers, and what the other side has on the one point that it comes to.
use Rattle.std.proofs.Common.{◌≡◌, ◌≤◌, ◌<◌, ◌+◌, ◌-◌, ◌∙◌, ◌⊎◌, inl, inr, ℕ, zero, suc, ℤ, Bool, true, false, cond, eqb, slice_index, get_or, List, [], ◌∷◌, length, sum, take, Option, Some, None, refl, ap, subst, sym, arith, add-one}
use Rattle.std.proofs.lemmas.Bool.{cases_lt}
use Rattle.std.proofs.lemmas.Bool.Decides.{nat_tests}
use Rattle.std.proofs.lemmas.List.Sums.{sum_by_more, sum_by-take-le}
use Rattle.position_rank.specs.Placement.{Placement, moved, hit}
use Rattle.move_rules.specs.Moves.{IsMove}
use Rattle.move_rules.specs.Ends.{after_move, down_from, places}
use Rattle.move_rules.proofs.EndsExact.{after_move-sound}
use Rattle.move_rules.proofs.StayLive.{mover-stays}
use Rattle.column_sums.specs.Cascade.{or_max, then_value, over_places}
use Rattle.column_sums.specs.Columns.{Step, step_from, landed_if, landed, with_step, steps_from, over_steps, AreStruck}

pub move-step : (p : Placement) (die from : ℕ) → after_move p die from ≡ landed_if p.other (step_from p.mover die from)
unfolding after_move step_from
move-step p die from = grind (arith, nat_tests)

-- one place more
step-more : (later : Placement → Option ℤ) (other : List ℕ) (o : Option Step) (steps : List Step) → over_steps later other (with_step o steps) ≡ or_max (then_value later (landed_if other o)) (over_steps later other steps)
step-more later other None steps = refl
step-more later other (Some step) steps = refl

pub places-steps : (later : Placement → Option ℤ) (p : Placement) (die : ℕ) (all : List ℕ) → over_places later p die all ≡ over_steps later p.other (steps_from p.mover die all)
places-steps later p die [] = refl
places-steps later p die (from ∷ rest) =
    ap (λ (o : Option Placement). or_max (then_value later o) (over_places later p die rest)) (move-step p die from)
    ∙ (ap (λ (x : Option ℤ). or_max (then_value later (landed_if p.other (step_from p.mover die from))) x) (places-steps later p die rest)
    ∙ sym (step-more later p.other (step_from p.mover die from) (steps_from p.mover die rest)))

-- ---- what a move leaves of the other side

hit-struck : (other : List ℕ) (point : ℕ) → 1 ≤ point → point ≤ 24 → AreStruck other (hit other point)
hit-struck other point low high = choose (eqb (slice_index other point) 1) refl where
  choose : (b : Bool) → eqb (slice_index other point) 1 ≡ b → AreStruck other (cond b (moved other point 25) other)
  choose true e = inr (point, low, high, grind (arith, nat_tests), refl)
  choose false e = inl refl

pub made-struck : (p : Placement) (die from : ℕ) (q : Placement) → 1 ≤ die → IsMove p die from q → AreStruck p.other q.other
made-struck p die from q low (inl runs) =
    subst (λ (b : Placement). AreStruck p.other b.other) (sym runs.after) (hit-struck p.other (25 - (from - die)) (omega (arith, low, runs.leaves.within)) (omega (arith, runs.on_board)))
made-struck p die from q low (inr off) = inl (ap (λ (b : Placement). b.other) off.after)

pub move-struck : (p : Placement) (die from : ℕ) (q : Placement) → 1 ≤ die → 1 ≤ from → from ≤ 25 → after_move p die from ≡ Some q → AreStruck p.other q.other
move-struck p die from q low a b e = made-struck p die from q low (after_move-sound p die from q a b e)

-- ---- what a step leaves of the mover

-- on a board without the other side
alone : (mover : List ℕ) (die from : ℕ) (step : Step) → step_from mover die from ≡ Some step → (q : Placement) × (after_move (record { mover = mover; other = [] }) die from ≡ Some q) × (q.mover ≡ step.mover)
alone mover die from step e =
    let m : after_move (record { mover = mover; other = [] }) die from ≡ landed [] step = move-step (record { mover = mover; other = [] }) die from ∙ ap (λ (o : Option Step). landed_if [] o) e in
    by_landing step.lands step.mover m where
      by_landing : (lands : Option ℕ) (after : List ℕ) → after_move (record { mover = mover; other = [] }) die from ≡ landed [] (record { mover = after; lands = lands }) → (q : Placement) × (after_move (record { mover = mover; other = [] }) die from ≡ Some q) × (q.mover ≡ after)
      by_landing None after m = (record { mover = after; other = [] }, m, refl)
      by_landing (Some point) after m = (record { mover = after; other = [] }, m, refl)

pub step-stays : (mover : List ℕ) (die from : ℕ) (step : Step) → length mover ≡ 26 → 1 ≤ from → from ≤ 25 → step_from mover die from ≡ Some step → (length step.mover ≡ 26) × (sum step.mover ≡ sum mover)
step-stays mover die from step long a b e =
    let r = alone mover die from step e in
    let s = mover-stays (record { mover = mover; other = [] }) die from r.0 long (after_move-sound (record { mover = mover; other = [] }) die from r.0 a b r.1) in
    (ap (λ (xs : List ℕ). length xs) (sym r.2) ∙ s.0, ap (λ (xs : List ℕ). sum xs) (sym r.2) ∙ s.1)

-- no step from a place without a checker
pub step-none : (mover : List ℕ) (die from : ℕ) → slice_index mover from ≡ 0 → step_from mover die from ≡ None
unfolding step_from
step-none mover die from e = grind (arith, nat_tests)

with-more : (o : Option Step) (steps : List Step) (n count : ℕ) → (0 < count ⊎ (o ≡ None)) → length steps ≤ n → length (with_step o steps) ≤ n + count
with-more None steps n count some h = omega (arith, h)
with-more (Some step) steps n count (inl some) h = omega (arith, h, some)
with-more (Some step) steps n count (inr none) h = absurd (grind arith)

-- no more steps than checkers
steps-few : (mover : List ℕ) (die n : ℕ) → length mover ≡ 26 → n ≤ 25 → length (steps_from mover die (down_from n)) ≤ sum (take (n + 1) mover)
steps-few mover die zero long h = omega arith
steps-few mover die (suc n) long h =
    let below = steps-few mover die n long (omega arith) in
    let more : sum (take (suc n + 1) mover) ≡ sum (take (suc n) mover) + get_or mover (suc n) 0 = sum_by_more (λ (x : ℕ). x) mover (suc n) 0 (omega arith) in
    let same : n + 1 ≡ suc n = add-one n in
    let below' : length (steps_from mover die (down_from n)) ≤ sum (take (suc n) mover) = rw same at below in
    let held : (0 < get_or mover (suc n) 0) ⊎ (step_from mover die (suc n) ≡ None) = elim (cases_lt 0 (get_or mover (suc n) 0)) [ inl some ↦ inl some | inr none ↦ inr (step-none mover die (suc n) (omega arith)) ] in
    rw more (with-more (step_from mover die (suc n)) (steps_from mover die (down_from n)) (sum (take (suc n) mover)) (get_or mover (suc n) 0) held below')

pub places-few : (mover : List ℕ) (die : ℕ) → length mover ≡ 26 → length (steps_from mover die places) ≤ sum mover
unfolding places
places-few mover die long = omega (arith, steps-few mover die 25 long (omega arith), sum_by-take-le (λ (x : ℕ). x) mover 26)
