use Rattle.std.proofs.Common.{◌≡◌, take}
use Rattle.play_analyser.specs.Losses.{least_pair}
use Rattle.play_analyser.proofs.answers.doubled_pair.Given as goal

abbrev pub invariant-loop-pair : goal.invariant-loop-pair
invariant-loop-pair l = l.least ≡ least_pair l.fn.pass (take l.pair-index l.taken)
