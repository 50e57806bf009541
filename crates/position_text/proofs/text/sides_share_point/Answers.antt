use Rattle.std.proofs.Common.{◌≡◌, ◌<◌, false, sym, subst, ◌∙◌, arith}
use Rattle.std.proofs.lemmas.Bool.Decides.{nat_tests}
use Rattle.position_text.proofs.TextPlacements.{is_shared, shared_from, shared-start, shared-end, shared-here, shared-later}
use Rattle.position_text.proofs.text.sides_share_point.Goals as goal
use Rattle.position_text.proofs.text.sides_share_point.Goals.{else-mover_at-gt0-via-then-mover_at-gt0+else-other_at-gt0, else-mover_at-gt0-via-else-mover_at-gt0}

pub loop-point-init : goal.loop-point-init
loop-point-init c = shared-start c.args.position.now

pub returns-then-other_at-gt0 : goal.returns-then-other_at-gt0
returns-then-other_at-gt0 c =
    sym (c.loop-point.invariant ∙ shared-here c.args.position.now c.loop-point.point c.loop-point-test.true (subst (λ n. 0 < n) c.mover_at.ensures c.if-mover_at-gt0.true) (subst (λ n. 0 < n) c.other_at.ensures c.if-other_at-gt0.true))

pub loop-point-preserved : goal.loop-point-preserved
loop-point-preserved c =
    let away : is_shared c.args.position.now c.loop-point.point ≡ false = elim c.else-mover_at-gt0.branch [
      | else-mover_at-gt0-via-then-mover_at-gt0+else-other_at-gt0 w ↦ grind (arith, nat_tests)
      | else-mover_at-gt0-via-else-mover_at-gt0 w ↦ grind (arith, nat_tests)
    ] in
    c.loop-point.invariant ∙ shared-later c.args.position.now c.loop-point.point c.loop-point-test.true away

pub returns : goal.returns
returns c =
    let last : c.loop-point.point ≡ 25 = omega arith in
    sym (c.loop-point.invariant ∙ subst (λ n. shared_from c.args.position.now n ≡ false) (sym last) (shared-end c.args.position.now))
