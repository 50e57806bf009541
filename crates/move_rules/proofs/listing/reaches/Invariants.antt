use Rattle.std.proofs.Common.{take}
use Rattle.move_rules.specs.Listing.{HasEnd, lines_of}
use Rattle.move_rules.proofs.listing.reaches.Given as goal

abbrev pub invariant-loop-entry : goal.invariant-loop-entry
invariant-loop-entry l = HasEnd (lines_of (take l.entry-index l.entry-items)) l.end → ⊥
