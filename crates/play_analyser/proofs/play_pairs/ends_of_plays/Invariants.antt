use Rattle.std.proofs.Common.{◌≡◌, take}
use Rattle.move_rules.specs.Order.{ends_of}
use Rattle.play_analyser.proofs.play_pairs.ends_of_plays.Given as goal

abbrev pub invariant-loop-entry : goal.invariant-loop-entry
invariant-loop-entry l = l.ends.items ≡ ends_of (take l.entry-index l.list)
