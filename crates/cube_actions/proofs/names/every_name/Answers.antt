use Rattle.std.proofs.Common.{◌≡◌, ◌++◌, [], ◌∷◌, List, ◌∙◌, ap, length, map, arith}
use Rattle.std.proofs.lemmas.List.{take_all}
use Rattle.cube_actions.specs.declared.match_kind.MatchKind.{MatchKind}
use Rattle.cube_actions.specs.declared.name.KindName.TheVariants.{Alone, Centred, Mine, Theirs}
use Rattle.cube_actions.specs.Names.{every_name, name_of}
use Rattle.cube_actions.proofs.names.every_name.Goals as goal

pub returns : goal.returns
unfolding every_name
returns c =
    let named = c.loop-kind.invariant in
    let long : length c.every_kind-kind-items.result ≡ 14 = ap length named.all in
    named.named ∙ ap (λ (kinds : List MatchKind). (Alone ∷ Centred ∷ Mine ∷ Theirs ∷ []) ++ map name_of kinds) (take_all c.loop-kind.kind-index c.every_kind-kind-items.result (omega arith) ∙ named.all)
