use Rattle.std.proofs.Common.{◌≡◌, ◌+◌, ◌-◌, arith, sym, ◌∙◌}
use Rattle.position_rank.proofs.Choose.{choose-one, choose-two, choose-three}
use Rattle.position_rank.proofs.rank.ways.Goals as goal

pub returns-in-1-clause-ways : goal.returns-in-1-clause-ways
returns-in-1-clause-ways c =
    let things : c.args.place + 1 - 1 ≡ c.args.place = omega arith in
    rw (c.in-1.is, things) (c.from-place.ensures ∙ sym (choose-one c.args.place))

pub returns-in-2-clause-ways : goal.returns-in-2-clause-ways
returns-in-2-clause-ways c =
    let things : c.args.place + 2 - 1 ≡ c.args.place + 1 = omega arith in
    rw (c.in-2.is, things, c.from-place.ensures) (omega (arith, choose-two c.args.place))

pub returns-in_default-clause-ways : goal.returns-in_default-clause-ways
returns-in_default-clause-ways c =
    let three : c.args.number ≡ 3 = omega arith in
    let things : c.args.place + 3 - 1 ≡ c.args.place + 2 = omega arith in
    rw (three, things, c.from-place.ensures) (omega (arith, choose-three c.args.place))
