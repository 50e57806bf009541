use Rattle.std.proofs.Common.{ap, ◌∙◌, length, rules, tests}
use Rattle.std.proofs.lemmas.Iterator.{YieldsList-from_slice}
use Rattle.std.proofs.lemmas.Iterator.Search.{position_from_yields_List}
use Rattle.std.specs.Option.{unwrap_or}
use Rattle.cube_actions.specs.MatchKinds.{same_kind}
use Rattle.cube_actions.proofs.FirstPassing.{place_found}
use Rattle.cube_actions.proofs.match_kind.number_in.Goals as goal

pub returns : goal.returns
returns c =
    let found = position_from_yields_List (same_kind c.args.kind) _ _ c.position.result c.position.ensures.ran (YieldsList-from_slice c.args.kinds.now cc) (λ x b q k. search (rules, tests)) in
    c.unwrap_or.ensures ∙ ap (λ o. unwrap_or o (length c.args.kinds.now)) found ∙ place_found (same_kind c.args.kind) c.args.kinds.now
