use Rattle.std.proofs.Common.{take}
use Rattle.move_rules.proofs.WrittenLaws.{SmallestSoFar}
use Rattle.move_rules.proofs.matched.smallest.Given as goal

abbrev pub invariant-loop-die : goal.invariant-loop-die
invariant-loop-die l = SmallestSoFar (take l.die-index l.die-items) l.from l.best
