use Rattle.std.proofs.Common.{◌≡◌, map, take}
use Rattle.race_table.proofs.FreeEnds.{mover_after}
use Rattle.race_table.proofs.free_plays.free_ends.Given as goal

-- the mover's checkers after the plays so far
abbrev pub invariant-loop-entry : goal.invariant-loop-entry
invariant-loop-entry l = l.ends.items ≡ map mover_after (take l.entry-index l.entry-items)
