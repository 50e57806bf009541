use Rattle.std.proofs.Common.{◌≡◌, take}
use Rattle.std.specs.List.{filter}
use Rattle.cube_actions.specs.MatchKinds.{can_come, every_kind}
use Rattle.cube_actions.proofs.match_kind.match_kinds.Given as goal

-- the kinds that can come among those that were looked at
abbrev pub invariant-loop-kind : goal.invariant-loop-kind
invariant-loop-kind l = record {
  all : l.kind-items ≡ every_kind;
  kept : l.kinds.items ≡ filter (can_come l.score) (take l.kind-index l.kind-items);
}
