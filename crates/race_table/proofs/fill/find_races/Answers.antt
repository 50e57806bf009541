use Rattle.std.proofs.Common.{◌≡◌}
use Rattle.position_rank.specs.Ranks.{rank_of}
use Rattle.race_table.proofs.Filling.{all-filled, counted-at, more-filled, rolls-of}
use Rattle.race_table.proofs.fill.find_races.Goals as goal

pub turn_of-found-requires-clause-rolls : goal.turn_of-found-requires-clause-rolls
turn_of-found-requires-clause-rolls c =
    let one = c.counted-item.result in
    let counted = counted-at c.args.checkers c.args.order.now c.requires.order c.loop-counted.counted-index one c.loop-counted-test.true c.counted-item.is in
    let rank : c.rank.result ≡ rank_of one.position.mover = rw c.mover.ensures.mover at c.rank.ensures.rank in
    rw c.as_slice-rolls.ensures.value (rolls-of c.args.checkers c.args.sides.now one.position c.rank.result c.index-sides-rank.result c.requires.sides counted.right rank)

pub loop-counted-preserved : goal.loop-counted-preserved
loop-counted-preserved c =
    rw (c.square_rank.ensures.rank, c.turn_of-found.ensures, c.as_slice.ensures.value)
    (more-filled c.args.checkers c.args.order.now c.requires.order c.loop-counted.counted-index c.counted-item.result c.loop-counted-test.true c.counted-item.is c.loop-counted.races.items c.loop-counted.invariant)

pub returns : goal.returns
returns c = all-filled c.args.checkers c.args.order.now c.requires.order c.loop-counted.counted-index c.loop-counted.races.items c.loop-counted-test.false c.loop-counted.invariant
