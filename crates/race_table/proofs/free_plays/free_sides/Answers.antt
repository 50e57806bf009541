use Rattle.race_table.proofs.FreeSides.{sides-all, sides-more, sides-none}
use Rattle.race_table.proofs.free_plays.free_sides.Goals as goal

pub loop-layout-init : goal.loop-layout-init
loop-layout-init c = rw c.new-sides.ensures.items (sides-none c.args.layouts.now)

pub loop-layout-preserved : goal.loop-layout-preserved
loop-layout-preserved c =
    rw c.in_ok-push.ensures.items (sides-more c.args.layouts.now c.loop-layout.layout-index c.loop-layout.sides.items _ c.loop-layout-test.true c.layout-item.is c.in_ok-free_rolls.ensures c.loop-layout.invariant)

pub returns : goal.returns
returns c = sides-all c.args.layouts.now c.loop-layout.layout-index c.loop-layout.sides.items c.loop-layout-test.false c.loop-layout.auto.layout-index-end c.loop-layout.invariant
