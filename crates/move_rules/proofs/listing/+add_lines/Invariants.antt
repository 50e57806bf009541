use Rattle.std.proofs.Common.{length}
use Rattle.move_rules.specs.Listing.{lines_of}
use Rattle.move_rules.proofs.LinesAdded.{AddsUpTo}
use Rattle.move_rules.proofs.listing.+add_lines.Given as goal

abbrev pub decreases-add_lines : goal.decreases-add_lines
decreases-add_lines l = length l.dice.now

abbrev pub invariant-loop-from : goal.invariant-loop-from
invariant-loop-from l = AddsUpTo l.dice l.fn.play.items l.position (lines_of l.initial.list.items) l.from l.play.items (lines_of l.list.items)

abbrev pub decreases-loop-from : goal.decreases-loop-from
decreases-loop-from l = l.from
