use Rattle.std.proofs.Common.{◌≡◌, ◌++◌, [], ◌∷◌, map, take}
use Rattle.cube_actions.specs.declared.name.KindName.TheVariants.{Alone, Centred, Mine, Theirs}
use Rattle.cube_actions.specs.MatchKinds.{every_kind}
use Rattle.cube_actions.specs.Names.{name_of}
use Rattle.cube_actions.proofs.names.every_name.Given as goal

-- the names without a match, and those of the kinds that were looked at
abbrev pub invariant-loop-kind : goal.invariant-loop-kind
invariant-loop-kind l = record {
  all : l.kind-items ≡ every_kind;
  named : l.names.items ≡ (Alone ∷ Centred ∷ Mine ∷ Theirs ∷ []) ++ map name_of (take l.kind-index l.kind-items);
}
