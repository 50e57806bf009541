use Rattle.std.proofs.Common.{◌≡◌, map, take}
use Rattle.cube_actions.specs.MatchKinds.{match_kinds}
use Rattle.cube_actions.specs.Matches.{match_kind}
use Rattle.cube_actions.proofs.stakes.Stakes.of_score.Given as goal

-- what was made of the kinds that were looked at
abbrev pub invariant-loop-kind : goal.invariant-loop-kind
invariant-loop-kind l = record {
  all : l.kind-items ≡ match_kinds l.score;
  made : l.kinds.items ≡ map (match_kind l.starts l.score) (take l.kind-index l.kind-items);
}
