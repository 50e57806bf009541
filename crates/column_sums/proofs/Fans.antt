-- The steps of a layout, place by place and die by die.
use Rattle.std.proofs.Common.{◌≡◌, ◌≤◌, ◌<◌, ◌+◌, ◌-◌, ◌*◌, ◌∙◌, ◌++◌, ◌⊎◌, ℕ, zero, suc, true, ◌&&◌, ltb, get_or, List, [], ◌∷◌, length, length-append, sum, Option, Some, None, refl, ap, subst, sym, arith, append_assoc}
use Rattle.std.proofs.lemmas.Bool.Decides.{nat_tests}
use Rattle.std.proofs.lemmas.List.{append-nil}
use Rattle.position_rank.specs.Placement.{IsLayout, moved}
use Rattle.position_rank.specs.Ranks.{layouts, rank_of}
use Rattle.position_rank.proofs.RankLaws.{layouts-same}
use Rattle.move_rules.specs.Ends.{down_from, places}
use Rattle.turn_rule.specs.Layouts.{AreLayouts}
use Rattle.column_sums.specs.Columns.{Step, step_from, steps_from, with_step, may_leave_alone}
use Rattle.column_sums.specs.declared.leaps.Leap.{Leap}
use Rattle.column_sums.specs.Leaps.{lands_of, layout_at, AreLeaps, IsLeapIf, IsStepIf}
use Rattle.column_sums.proofs.StepLemmas.{step-stays, places-few}

lands-suc : (n : ℕ) → 1 ≤ n → lands_of n ≡ Some n
lands-suc zero h = absurd (omega arith)
lands-suc (suc n) h = refl

run-step : (mover : List ℕ) (die from : ℕ) → 0 < get_or mover from 0 → (from ≡ 25) ⊎ (get_or mover 25 0 ≡ 0) → die < from → step_from mover die from ≡ Some (record { mover = moved mover from (from - die); lands = Some (25 - (from - die)) })
unfolding step_from
run-step mover die from held bar on =
    let passes : (may_leave_alone mover from && ltb die from) ≡ true = grind (arith, nat_tests) in
    rw passes refl

pub run-is : (mover after : List ℕ) (die from : ℕ) → 1 ≤ die → from ≤ 25 → 0 < get_or mover from 0 → (from ≡ 25) ⊎ (get_or mover 25 0 ≡ 0) → die < from → after ≡ moved mover from (from - die)
    → IsStepIf (Some (25 - (from - die), after)) (step_from mover die from)
run-is mover after die from low high held bar on is =
    subst (λ (o : Option Step). IsStepIf (Some (25 - (from - die), after)) o) (sym (run-step mover die from held bar on))
    (omega (arith, on), lands-suc (25 - (from - die)) (omega (arith, low, high, on)), is)

-- ---- the number of the layout that is left

pub leap-is : (checkers : ℕ) (all : List (List ℕ)) (mover after : List ℕ) (die from lands rank : ℕ) → AreLayouts checkers all → length mover ≡ 26 → sum mover ≡ checkers → 1 ≤ from → from ≤ 25
    → IsLayout after → rank ≡ rank_of after → rank < layouts (sum after) → IsStepIf (Some (lands, after)) (step_from mover die from)
    → (rank < length all) × IsLeapIf all (Some (record { lands = lands; to = rank })) (step_from mover die from)
leap-is checkers all mover after die from lands rank are long many a b valid ranked below is = by_step (step_from mover die from) refl is where
  by_step : (o : Option Step) → step_from mover die from ≡ o → IsStepIf (Some (lands, after)) o → (rank < length all) × IsLeapIf all (Some (record { lands = lands; to = rank })) o
  by_step None e is = absurd is
  by_step (Some step) e is =
      let stays = step-stays mover die from step long a b e in
      let sums : sum after ≡ checkers = ap (λ (xs : List ℕ). sum xs) is.2 ∙ (stays.1 ∙ many) in
      let here : rank < length all = omega (arith, below, are.many, ap (λ (n : ℕ). layouts n) sums) in
      let has = are.each rank [] here in
      (here, record { within = here; mover = layouts-same (layout_at all rank) after has.valid valid (has.many ∙ sym sums) (has.ranked ∙ ranked) ∙ is.2; point = is.0; lands = is.1 })

-- ---- place by place

-- the leaps so far, where steps from the first few places are left
pub record Fanned (all : List (List ℕ)) (mover : List ℕ) (die : ℕ) (leaps : List Leap) (left : ℕ) : Type 0 where
  pub few : length leaps + length (steps_from mover die (down_from left)) ≤ 3
  pub so_far : (rest : List Leap) → AreLeaps all rest (steps_from mover die (down_from left)) → AreLeaps all (leaps ++ rest) (steps_from mover die places)

pub fan-start : (all : List (List ℕ)) (mover : List ℕ) (die : ℕ) → length mover ≡ 26 → sum mover ≤ 3 → Fanned all mover die [] 25
unfolding places
fan-start all mover die long few = record { few = omega (arith, few, places-few mover die long); so_far = λ rest are. are }

pub fan-end : (all : List (List ℕ)) (mover : List ℕ) (die : ℕ) (leaps : List Leap) → Fanned all mover die leaps 0 → AreLeaps all leaps (steps_from mover die places)
fan-end all mover die leaps fanned = subst (λ (xs : List Leap). AreLeaps all xs (steps_from mover die places)) (append-nil leaps) (fanned.so_far [] tt)

module _ (all : List (List ℕ)) (mover : List ℕ) (die : ℕ) (leaps : List Leap) (n : ℕ) where
  pub fan-skip : IsLeapIf all None (step_from mover die (suc n)) → Fanned all mover die leaps (suc n) → Fanned all mover die leaps n
  fan-skip is fanned = by_step (step_from mover die (suc n)) is fanned.few fanned.so_far where
    by_step : (o : Option Step) → IsLeapIf all None o → length leaps + length (with_step o (steps_from mover die (down_from n))) ≤ 3
        → ((rest : List Leap) → AreLeaps all rest (with_step o (steps_from mover die (down_from n))) → AreLeaps all (leaps ++ rest) (steps_from mover die places)) → Fanned all mover die leaps n
    by_step None is few so_far = record { few = few; so_far = so_far }
    by_step (Some step) is few so_far = absurd is

  pub fan-room : (leap : Leap) → IsLeapIf all (Some leap) (step_from mover die (suc n)) → Fanned all mover die leaps (suc n) → length leaps < 3
  fan-room leap is fanned = by_step (step_from mover die (suc n)) is fanned.few where
    by_step : (o : Option Step) → IsLeapIf all (Some leap) o → length leaps + length (with_step o (steps_from mover die (down_from n))) ≤ 3 → length leaps < 3
    by_step None is few = absurd is
    by_step (Some step) is few = omega (arith, few)

  pub fan-next : (leap : Leap) → IsLeapIf all (Some leap) (step_from mover die (suc n)) → Fanned all mover die leaps (suc n) → Fanned all mover die (leaps ++ leap ∷ []) n
  fan-next leap is fanned = by_step (step_from mover die (suc n)) is fanned.few fanned.so_far where
    by_step : (o : Option Step) → IsLeapIf all (Some leap) o → length leaps + length (with_step o (steps_from mover die (down_from n))) ≤ 3
        → ((rest : List Leap) → AreLeaps all rest (with_step o (steps_from mover die (down_from n))) → AreLeaps all (leaps ++ rest) (steps_from mover die places)) → Fanned all mover die (leaps ++ leap ∷ []) n
    by_step None is few so_far = absurd is
    by_step (Some step) is few so_far = record {
      few = omega (arith, few, length-append leaps (leap ∷ []));
      so_far = λ rest are. subst (λ (xs : List Leap). AreLeaps all xs (steps_from mover die places)) (sym (append_assoc leaps (leap ∷ []) rest)) (so_far (leap ∷ rest) (is, are));
    }

-- ---- die by die
