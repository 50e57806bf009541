use Rattle.std.proofs.Common.{arith}
use Rattle.std.proofs.lemmas.List.{drop_all}
use Rattle.std.proofs.lemmas.Result.{err_from_is_err_and}
use Rattle.move_rules.proofs.WrittenLaws.{step-more, step-wrong, steps-end, next-step}
use Rattle.move_rules.proofs.matched.match_steps.Goals as goal

pub loop-step-preserved : goal.loop-step-preserved
loop-step-preserved c =
    let made = c.in_ok-made.ensures.ok in
    step-more _ _ _ _ _ _ _ _ _ _ _ _ _ _ c.loop-step.invariant (next-step c.deref-step-items.result.now c.loop-step.step-index c.step-item.result c.loop-step-test.true c.step-item.is) made.1 made.2 c.push.ensures.items

pub returns-in_err-made-clause-err : goal.returns-in_err-made-clause-err
returns-in_err-made-clause-err c =
    let p = err_from_is_err_and c.from_residual.result c.from_residual.ensures.1 in
    rw (p.1, p.2) (step-wrong _ _ _ _ _ _ _ _ _ _ c.loop-step.invariant (next-step c.deref-step-items.result.now c.loop-step.step-index c.step-item.result c.loop-step-test.true c.step-item.is) c.in_err-made.ensures.err)

pub returns-clause-ok : goal.returns-clause-ok
returns-clause-ok c = steps-end _ _ _ _ _ _ _ c.loop-step.invariant (drop_all c.loop-step.step-index c.deref-step-items.result.now (omega arith))
