use Rattle.std.proofs.Common.{◌≡◌, take}
use Rattle.cube_actions.proofs.kind.Double.copied.Given as goal

abbrev pub invariant-loop-taken : goal.invariant-loop-taken
invariant-loop-taken l = l.answers.items ≡ take l.taken-index l.taken-items
