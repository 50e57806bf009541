use Rattle.std.proofs.Common.{◌≡◌, length, ap, ap₂, sym, ◌∙◌, rules, tests, List}
use Rattle.std.specs.Option.{unwrap_or}
use Rattle.std.specs.List.{position_or_len}
use Rattle.base_head.proofs.Places.{place_found}
use Rattle.std.proofs.lemmas.Iterator.{YieldsList-from_slice}
use Rattle.std.proofs.lemmas.Iterator.Search.{position_from_yields_List}
use Rattle.cube_actions.specs.Scores.{MatchScore, same_score}
use Rattle.base_head.proofs.head.ladder_place.Goals as goal

pub returns : goal.returns
returns c =
    let scores = c.as_slice.result.now in
    let found = position_from_yields_List (same_score c.args.score) _ _ c.position.result c.position.ensures.ran (YieldsList-from_slice scores cc) (λ x b q k. search (rules, tests)) in
    let same = c.as_slice.ensures.value in
    let count : c.len.result ≡ length scores = c.len.ensures.value ∙ ap length (sym same) in
    c.unwrap_or.ensures
    ∙ ap₂ (λ o n. unwrap_or o n) found count
    ∙ place_found (same_score c.args.score) scores
    ∙ ap (λ (list : List MatchScore). position_or_len (same_score c.args.score) list) (same ∙ c.ladder-scores.ensures)
