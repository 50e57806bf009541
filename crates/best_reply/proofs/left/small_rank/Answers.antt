use Rattle.std.proofs.Common.{◌*◌, arith}
use Rattle.position_rank.specs.Ranks.{layouts}
use Rattle.position_rank.proofs.LiveLaws.{live_below-le, square-size}
use Rattle.best_reply.proofs.left.small_rank.Goals as goal

pub returns-clause-small : goal.returns-clause-small
returns-clause-small c =
    let n = c.args.index.now in
    omega (arith, c.rank.ensures.below, live_below-le n (layouts n * layouts n), square-size n (let low = c.checkers-checkers.ensures.low in omega (arith, low, c.checkers-checkers.ensures.checkers)) (let high = c.checkers-checkers.ensures.high in omega (arith, high, c.checkers-checkers.ensures.checkers)))
