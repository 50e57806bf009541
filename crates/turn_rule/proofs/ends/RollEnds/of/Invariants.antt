use Rattle.std.proofs.Common.{◌≡◌, map, take, All}
use Rattle.turn_rule.specs.Rolled.{HasEnds, weighted}
use Rattle.turn_rule.proofs.ends.RollEnds.of.Given as goal

abbrev pub invariant-loop-roll : goal.invariant-loop-roll
invariant-loop-roll l = record {
  rolls : map weighted l.kept.items ≡ take l.roll-index l.roll-items;
  ends : All (HasEnds l.position) l.kept.items;
}
