use Rattle.std.proofs.Common.{◌≡◌, map, take}
use Rattle.directed_fixed.specs.Bounds.{negated}
use Rattle.play_analyser.proofs.answers.for_other_side.Given as goal

abbrev pub invariant-loop-pair : goal.invariant-loop-pair
invariant-loop-pair l = l.theirs.items ≡ map negated (take l.pair-index l.taken)
