use Rattle.std.proofs.Common.{◌≡◌, ◌<◌, ◌⊎◌, inl, inr, get_or, arith}
use Rattle.std.proofs.lemmas.Bool.Decides.{nat_tests}
use Rattle.column_sums.proofs.Fans.{run-is}
use Rattle.column_sums.proofs.steps.step_of.Goals as goal
use Rattle.column_sums.proofs.steps.step_of.Goals.{then-from-ne25, else-from-ne25}

pub returns-then-die-from : goal.returns-then-die-from
returns-then-die-from c =
    let mover = c.args.layout.now in
    let held : 0 < get_or mover c.args.from 0 = omega (arith, c.if-count-eq0.false, c.count.ensures.count) in
    let bar : (c.args.from ≡ 25) ⊎ (get_or mover 25 0 ≡ 0) = elim c.if-from-ne25.branch [ then-from-ne25 w ↦ inr (grind (arith, nat_tests)) | else-from-ne25 w ↦ inl (grind (arith, nat_tests)) ] in
    run-is mover c.moved.result c.args.die c.args.from c.requires.low c.requires.within held bar c.if-die-from.true c.moved.ensures.moved
