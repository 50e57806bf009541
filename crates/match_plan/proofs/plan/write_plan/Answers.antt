use Rattle.std.proofs.Common.{◌≡◌, ◌∙◌, ap, arith}
use Rattle.cube_actions.specs.Ladder.{ladder}
use Rattle.match_plan.specs.Plans.{score_lines}
use Rattle.match_plan.proofs.Places.{place-covered, place-start, place-lines}
use Rattle.match_plan.proofs.plan.write_plan.Goals as goal

pub add_score-requires-clause-start : goal.add_score-requires-clause-start
add_score-requires-clause-start g c =
    let starts = c.args.starts.now in
    let scores : c.as_slice-score-items.result.now ≡ ladder starts.match_length = c.as_slice-score-items.ensures.value ∙ c.ladder-scores.ensures ∙ ap ladder c.match_length.ensures.length in
    place-start starts c.match_length.ensures.valid c.requires c.loop-number.number (rw scores at c.loop-number-test.true) c.score-item.result (rw scores at c.score-item.is) c.pair.result c.pair.ensures.pair

pub add_score-requires-clause-covered : goal.add_score-requires-clause-covered
add_score-requires-clause-covered g c =
    let starts = c.args.starts.now in
    let scores : c.as_slice-score-items.result.now ≡ ladder starts.match_length = c.as_slice-score-items.ensures.value ∙ c.ladder-scores.ensures ∙ ap ladder c.match_length.ensures.length in
    place-covered starts c.match_length.ensures.valid c.requires c.loop-number.number (rw scores at c.loop-number-test.true) c.score-item.result (rw scores at c.score-item.is)

pub loop-number-preserved : goal.loop-number-preserved
loop-number-preserved g c =
    let starts = c.args.starts.now in
    let scores : c.as_slice-score-items.result.now ≡ ladder starts.match_length = c.as_slice-score-items.ensures.value ∙ c.ladder-scores.ensures ∙ ap ladder c.match_length.ensures.length in
    let more = place-lines starts c.match_length.ensures.valid c.requires c.loop-number.number (rw scores at c.loop-number-test.true) c.score-item.result (rw scores at c.score-item.is) (score_lines starts) in
    record { bytes = rw more (rw c.loop-number.invariant.bytes at c.add_score.ensures.bytes); room = omega (arith, c.loop-number.invariant.room, c.add_score.ensures.length) }
