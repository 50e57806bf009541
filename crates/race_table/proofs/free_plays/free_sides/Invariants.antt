use Rattle.race_table.proofs.FreeSides.{AreFirstSides}
use Rattle.race_table.proofs.free_plays.free_sides.Given as goal

-- the layouts so far
abbrev pub invariant-loop-layout : goal.invariant-loop-layout
invariant-loop-layout l = AreFirstSides l.layouts l.layout-index l.sides.items
