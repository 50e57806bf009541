use Rattle.std.proofs.Common.{arith}
use Rattle.interval_words.proofs.SomeState.{some-state}
use Rattle.interval_words.proofs.Calls.{count-is}
use Rattle.interval_words.proofs.number.state_count.Goals as goal

pub returns-clause-count : goal.returns-clause-count
returns-clause-count c = count-is _ _ _ _ c.count.ensures.count c.kinds.ensures.kinds

pub returns-clause-some : goal.returns-clause-some
returns-clause-some c =
    let some = some-state c.args.index.now _ (omega (arith, c.checkers-checkers.ensures.low, c.checkers-checkers.ensures.checkers)) (omega (arith, c.checkers-checkers.ensures.high, c.checkers-checkers.ensures.checkers)) c.kinds.ensures.valid.some in
    omega (arith, some, count-is _ _ _ _ c.count.ensures.count c.kinds.ensures.kinds)
