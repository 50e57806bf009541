use Rattle.std.proofs.Common.{inr, refl}
use Rattle.move_rules.proofs.FaultLaws.{Contains-got}
use Rattle.move_rules.proofs.WrittenLaws.{mark-wrong}
use Rattle.move_rules.proofs.matched.match_step.Goals as goal

pub returns-else-hits-step-clause-err : goal.returns-else-hits-step-clause-err
returns-else-hits-step-clause-err c =
    let made = c.in-Ok.ensures.ok in
    inr (inr (refl, c.in-Some.die, c.in-Some.ensures, record { left = Contains-got c.args.dice.now.items made.0 c.in-Some.die made.1; next = c.in-Ok.next; made = made.3; mark = mark-wrong _ c.hits.result c.args.step.hit c.hits.ensures c.if-hits-step.false }))
