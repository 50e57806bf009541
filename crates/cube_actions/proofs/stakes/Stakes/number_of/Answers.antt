use Rattle.std.proofs.Common.{◌≡◌, ◌↔◌, IsSome, List, ap, subst, ◌∙◌, rules, tests}
use Rattle.std.proofs.lemmas.Iterator.{YieldsList-from_slice}
use Rattle.std.proofs.lemmas.Iterator.Search.{position_from_yields_List}
use Rattle.std.specs.List.{Contains}
use Rattle.cube_actions.specs.declared.name.KindName.{KindName}
use Rattle.cube_actions.specs.Stakes.{Terms}
use Rattle.cube_actions.specs.Names.{names_of, same_name}
use Rattle.cube_actions.proofs.NamesKnown.{some_exactly}
use Rattle.cube_actions.proofs.stakes.Stakes.number_of.Goals as goal

pub returns-clause-some : goal.returns-clause-some
returns-clause-some c =
    let found = position_from_yields_List (same_name c.args.name) _ _ c.position.result c.position.ensures.ran (YieldsList-from_slice c.as_slice.result.now cc) (λ x b q k. search (rules, tests)) in
    let names : c.as_slice.result.now ≡ names_of c.args.self.now.name = c.as_slice.ensures.value ∙ c.names_of-names.ensures ∙ ap (λ (stakes : Terms). names_of stakes.name) c.self.view_is in
    subst (λ (names : List KindName). IsSome c.position.result ↔ Contains names c.args.name) names (some_exactly c.args.name c.as_slice.result.now c.position.result found)
