use Rattle.std.proofs.Common.{◌≡◌, ◌≤◌, ◌⊎◌, inl, inr, arith, get_or}
use Rattle.position_rank.specs.Placement.{above}
use Rattle.move_rules.proofs.FaultLaws.{made-ok, made-err}
use Rattle.move_rules.proofs.applied.make_by.Goals as goal
use Rattle.move_rules.proofs.applied.make_by.Goals.{else-step-ne25-via-then-step-ne25+else-mover_at-gt0, else-step-ne25-via-else-step-ne25, else-step-via-then-step+else-not-may_bear_off, else-step-via-else-step}

pub returns-clause-ok : goal.returns-clause-ok
returns-clause-ok c = made-ok _ _ _ c.after_move.result c.ok_or.result c.ok_or.ensures.value c.after_move.ensures (omega arith) (omega arith)

pub returns-clause-err : goal.returns-clause-err
returns-clause-err c =
    let p = c.args.position.now in
    let bar : (c.args.step.from ≡ 25) ⊎ (get_or p.mover 25 0 ≡ 0) = elim c.else-step-ne25.branch [
      | else-step-ne25-via-then-step-ne25+else-mover_at-gt0 w ↦ inr (omega arith)
      | else-step-ne25-via-else-step-ne25 w ↦ inl (omega arith)
    ] in
    let home : c.args.step.from ≤ c.args.step.die → (above p.mover 6 ≡ 0) × ((c.args.step.from ≡ c.args.step.die) ⊎ (above p.mover c.args.step.from ≡ 0)) = elim c.else-step.branch [
      | else-step-via-then-step+else-not-may_bear_off w ↦ λ reaches. w.may_bear_off.ensures.0 w.if-not-may_bear_off.false
      | else-step-via-else-step w ↦ λ reaches. absurd (omega arith)
    ] in
    made-err p c.args.step c.after_move.result c.ok_or.result c.ok_or.ensures.value c.after_move.ensures (omega arith) (omega arith) (omega arith) bar home
