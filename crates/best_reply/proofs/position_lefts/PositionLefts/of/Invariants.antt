use Rattle.std.proofs.Common.{◌≡◌, All, map, take}
use Rattle.best_reply.specs.Tables.{RollAt, weighted_kept}
use Rattle.best_reply.proofs.position_lefts.PositionLefts.of.Given as goal

-- the rolls so far
abbrev pub invariant-loop-roll : goal.invariant-loop-roll
invariant-loop-roll l = record {
  rolls : map weighted_kept l.kept.items ≡ take l.roll-index l.roll-items;
  position : All (λ (at : RollAt). at.position ≡ l.position) l.kept.items;
}
