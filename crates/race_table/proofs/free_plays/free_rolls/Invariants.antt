use Rattle.std.proofs.Common.{◌≡◌, All, map, take}
use Rattle.race_table.specs.FreePlays.{HasFreeEnds, weighted_turns}
use Rattle.race_table.proofs.free_plays.free_rolls.Given as goal

-- the rolls so far
abbrev pub invariant-loop-roll : goal.invariant-loop-roll
invariant-loop-roll l = record {
  rolls : map weighted_turns l.kept.items ≡ take l.roll-index l.roll-items;
  ends : All (HasFreeEnds l.mover) l.kept.items;
}
