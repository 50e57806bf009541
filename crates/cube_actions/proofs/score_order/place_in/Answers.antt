use Rattle.std.proofs.Common.{length, ap, ◌∙◌, rules, tests}
use Rattle.std.specs.Option.{unwrap_or}
use Rattle.cube_actions.proofs.FirstPassing.{place_found}
use Rattle.std.proofs.lemmas.Iterator.{YieldsList-from_slice}
use Rattle.std.proofs.lemmas.Iterator.Search.{position_from_yields_List}
use Rattle.cube_actions.specs.Scores.{same_score}
use Rattle.cube_actions.proofs.score_order.place_in.Goals as goal

pub returns : goal.returns
returns c =
    let found = position_from_yields_List (same_score c.args.score) _ _ c.position.result c.position.ensures.ran (YieldsList-from_slice c.args.scores.now cc) (λ x b q k. search (rules, tests)) in
    c.unwrap_or.ensures ∙ ap (λ o. unwrap_or o (length c.args.scores.now)) found ∙ place_found (same_score c.args.score) c.args.scores.now
