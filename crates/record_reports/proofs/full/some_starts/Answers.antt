use Rattle.std.proofs.Common.{◌≡◌, ◌<◌, ◌≤◌, ℕ, length, ap, sym, subst, arith}
use Rattle.cube_actions.specs.Ladder.{ladder}
use Rattle.cube_actions.specs.Starts.{Covers, ladder_place}
use Rattle.record_reports.proofs.ScoreKinds.{listed}
use Rattle.record_reports.proofs.full.some_starts.Goals as goal

pub returns : goal.returns
returns c = λ score of_match.
    let points = c.args.match_length in
    let starts = c.loop-score.starts in
    let same : starts.match_length ≡ points = c.loop-score.invariant.0 in
    let count : length starts.pairs ≡ c.loop-score._score-index = c.loop-score.invariant.1 in
    let whole : length c.as_slice-score-items.result.now ≡ length (ladder points) = ap (λ xs. length xs) c.loop-score.invariant.2 in
    let all : length c.as_slice-score-items.result.now ≤ c.loop-score._score-index = omega (arith, c.loop-score-test.false) in
    let place : ladder_place points score < length (ladder points) = listed points score ((c.ladders_are_exact.ensures.scores points c.requires.0 c.requires.1 score).1 of_match) in
    subst (λ (n : ℕ). Covers (record { match_length = n; pairs = starts.pairs }) score) (sym same) (record { listed = place; held = omega (arith, place, count, whole, all) })
