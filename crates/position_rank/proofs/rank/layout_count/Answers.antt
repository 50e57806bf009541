use Rattle.std.proofs.Common.{◌≡◌, arith, sym}
use Rattle.position_rank.proofs.RankLaws.{layouts-one, layouts-two, layouts-three}
use Rattle.position_rank.proofs.rank.layout_count.Goals as goal

pub returns-in-1-clause-count : goal.returns-in-1-clause-count
returns-in-1-clause-count c = rw c.in-1.is (sym layouts-one)

pub returns-in-2-clause-count : goal.returns-in-2-clause-count
returns-in-2-clause-count c = rw c.in-2.is (sym layouts-two)

pub returns-in_default-clause-count : goal.returns-in_default-clause-count
returns-in_default-clause-count c =
    let three : c.args.checkers ≡ 3 = omega arith in
    rw three (sym layouts-three)
