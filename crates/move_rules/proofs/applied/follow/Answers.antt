use Rattle.std.proofs.lemmas.Result.{err_from_is_err_and}
use Rattle.move_rules.proofs.FaultLaws.{goes_on, goes_wrong, next-of}
use Rattle.move_rules.proofs.applied.follow.Goals as goal

pub loop-step-preserved : goal.loop-step-preserved
loop-step-preserved c =
    let made = c.in_ok-now.ensures.ok in
    goes_on _ _ _ _ _ _ _ _ made.0 _ _ c.loop-step.invariant (next-of c.deref-step-items.result.now c.loop-step.step-index (record { from = 0; die = 0 }) c.loop-step-test.true) made.1 made.2 made.3

pub returns-in_err-now-clause-err : goal.returns-in_err-now-clause-err
returns-in_err-now-clause-err c =
    let p = err_from_is_err_and c.from_residual.result c.from_residual.ensures.1 in
    rw (p.1, p.2)
    (goes_wrong _ _ _ _ _ _ _ _ _ c.loop-step.invariant (next-of c.deref-step-items.result.now c.loop-step.step-index (record { from = 0; die = 0 }) c.loop-step-test.true) c.in_err-now.ensures.err)
