use Rattle.std.proofs.Common.{◌≡◌, take}
use Rattle.cube_actions.proofs.starts.Starts.copied.Given as goal

abbrev pub invariant-loop-pair : goal.invariant-loop-pair
invariant-loop-pair l = l.pairs.items ≡ take l.pair-index l.pair-items
