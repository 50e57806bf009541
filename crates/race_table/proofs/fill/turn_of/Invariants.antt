use Rattle.race_table.proofs.Sums.{AreSums}
use Rattle.race_table.proofs.fill.turn_of.Given as goal

-- the rolls so far
abbrev pub invariant-loop-roll : goal.invariant-loop-roll
invariant-loop-roll l = AreSums l.races l.race l.roll-index l.lower l.upper l.most
