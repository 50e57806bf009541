use Rattle.std.proofs.Common.{◌≡◌, take}
use Rattle.cube_actions.proofs.stakes.money.double_of.Given as goal

abbrev pub invariant-loop-taken : goal.invariant-loop-taken
invariant-loop-taken l = l.list.items ≡ take l.taken-index l.answers
