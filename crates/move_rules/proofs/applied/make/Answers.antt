use Rattle.move_rules.proofs.FaultLaws.{found-at, Contains-at}
use Rattle.move_rules.proofs.applied.make.Goals as goal

pub returns-in-Err-clause-err : goal.returns-in-Err-clause-err
returns-in-Err-clause-err c =
    c.in-Err.ensures.err c.args.dice.now.items (Contains-at c.args.dice.now.items c.in-Some.at c.args.step.die c.in-Some.ensures.0 c.in-Some.ensures.1)

pub returns-in-Ok-clause-ok : goal.returns-in-Ok-clause-ok
returns-in-Ok-clause-ok c = (c.in-Some.at, found-at c.args.dice.now.items c.in-Some.at c.args.step.die c.in-Some.ensures.0 c.in-Some.ensures.1, c.remove.ensures.items, c.in-Ok.ensures.ok)
