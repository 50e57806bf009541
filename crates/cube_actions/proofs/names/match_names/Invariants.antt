use Rattle.std.proofs.Common.{◌≡◌, map, take}
use Rattle.cube_actions.specs.MatchKinds.{match_kinds}
use Rattle.cube_actions.specs.Names.{name_of}
use Rattle.cube_actions.proofs.names.match_names.Given as goal

-- the names of the kinds that were looked at
abbrev pub invariant-loop-kind : goal.invariant-loop-kind
invariant-loop-kind l = record {
  all : l.kind-items ≡ match_kinds l.fn.score;
  named : l.names.items ≡ map name_of (take l.kind-index l.kind-items);
}
