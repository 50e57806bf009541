use Rattle.std.proofs.Common.{arith}
use Rattle.column_sums.proofs.Fans.{leap-is}
use Rattle.column_sums.proofs.steps.leap_of.Goals as goal

pub overflow_cast-result : goal.overflow_cast-result
overflow_cast-result c =
    let r = leap-is c.args.checkers c.args.layouts.now c.args.layout.now c.in-Some.left.1 c.args.die c.args.from c.in-Some.left.0 c.number_of.result c.requires.all c.checkers-valid.ensures.valid.places c.requires.many c.requires.place c.requires.within c.number_of.ensures.valid c.number_of.ensures.rank c.number_of.ensures.below c.in-Some.ensures in
    omega (arith, r.0, c.requires.few)

pub returns-in-Some : goal.returns-in-Some
returns-in-Some c =
    (leap-is c.args.checkers c.args.layouts.now c.args.layout.now c.in-Some.left.1 c.args.die c.args.from c.in-Some.left.0 c.number_of.result c.requires.all c.checkers-valid.ensures.valid.places c.requires.many c.requires.place c.requires.within c.number_of.ensures.valid c.number_of.ensures.rank c.number_of.ensures.below c.in-Some.ensures).1
