use Rattle.std.proofs.Common.{◌≡◌, ◌∙◌, ap, length, arith}
use Rattle.std.proofs.lemmas.List.{take_all}
use Rattle.std.specs.List.{filter}
use Rattle.cube_actions.specs.Ladder.{is_of_match}
use Rattle.cube_actions.proofs.LadderOfFive.{kept_of_five, length-five, kept_few}
use Rattle.cube_actions.proofs.score_order.ladder.Goals as goal

pub push-requires : goal.push-requires
push-requires c =
    let kept = c.loop-score.invariant in
    let long : length c.scores_to_five-score-items.result ≡ 18 = ap length kept.all ∙ length-five in
    let few = kept_few (is_of_match c.args.length) c.scores_to_five-score-items.result c.loop-score.score-index (omega arith) in
    omega (arith, ap length kept.kept)

pub returns : goal.returns
returns c =
    let kept = c.loop-score.invariant in
    let long : length c.scores_to_five-score-items.result ≡ 18 = ap length kept.all ∙ length-five in
    kept.kept
    ∙ ap (filter (is_of_match c.args.length)) (take_all c.loop-score.score-index c.scores_to_five-score-items.result (omega arith) ∙ kept.all)
    ∙ kept_of_five c.args.length c.requires.from c.requires.to
