use Rattle.std.proofs.Common.{◌≡◌, ◌-◌, ◌+◌, suc, Some, None, List, arith, subst, ◌∙◌, sym, ap}
use Rattle.column_sums.specs.Columns.{step_from}
use Rattle.column_sums.specs.declared.leaps.Leap.{Leap}
use Rattle.column_sums.specs.Leaps.{IsLeapIf}
use Rattle.column_sums.proofs.Fans.{Fanned, fan-start, fan-end, fan-skip, fan-next}
use Rattle.column_sums.proofs.steps.fan_of.Goals as goal
use Rattle.column_sums.proofs.steps.fan_of.Goals.{in-Some, in_default}

pub loop-below-init : goal.loop-below-init
loop-below-init c =
    subst (λ (xs : List Leap). Fanned c.args.layouts.now c.args.layout.now c.args.die xs 25) (sym c.new-leaps.ensures)
    (fan-start c.args.layouts.now c.args.layout.now c.args.die c.rank-valid.ensures.valid.places c.rank-valid.ensures.valid.at_most_three)

pub loop-below-preserved : goal.loop-below-preserved
loop-below-preserved c =
    let all = c.args.layouts.now in
    let mover = c.args.layout.now in
    let die = c.args.die in
    let n = 25 - (c.loop-below.below + 1) in
    let from : 25 - c.loop-below.below ≡ suc n = omega (arith, c.loop-below-test.true) in
    let fanned = subst (Fanned all mover die c.loop-below.leaps.items) from c.loop-below.invariant in
    elim c.match-leap_of.branch [
      | in-Some w ↦ (
          let made : IsLeapIf all (Some w.in-Some.leap) (step_from mover die (suc n)) = subst (λ k. IsLeapIf all (Some w.in-Some.leap) (step_from mover die k)) from w.in-Some.ensures in
          subst (λ (xs : List Leap). Fanned all mover die xs n) (sym w.push.ensures.items ∙ ap (λ a. a.items) (sym w.leaps-is)) (fan-next all mover die c.loop-below.leaps.items n w.in-Some.leap made fanned))
      | in_default w ↦ (
          let none : IsLeapIf all None (step_from mover die (suc n)) = subst (λ k. IsLeapIf all None (step_from mover die k)) from w.in_default.ensures in
          subst (λ (xs : List Leap). Fanned all mover die xs n) (ap (λ a. a.items) (sym w.leaps-is)) (fan-skip all mover die c.loop-below.leaps.items n none fanned))
    ]

pub returns : goal.returns
returns c = fan-end c.args.layouts.now c.args.layout.now c.args.die c.loop-below.leaps.items (subst (Fanned c.args.layouts.now c.args.layout.now c.args.die c.loop-below.leaps.items) (omega (arith, c.loop-below-test.false)) c.loop-below.invariant)
