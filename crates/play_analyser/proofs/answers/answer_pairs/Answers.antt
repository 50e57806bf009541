use Rattle.std.proofs.Common.{◌<◌, ◌∙◌, length, get_or, arith}
use Rattle.std.proofs.lemmas.Result.{err_from_is_err_and}
use Rattle.turn_rule.proofs.Found.{then-err}
use Rattle.turn_rule.proofs.Values.{no_answer, an_answer}
use Rattle.play_analyser.specs.Sought.{of_answer}
use Rattle.play_analyser.proofs.PairLists.{next-pair}
use Rattle.play_analyser.proofs.LossPairs.{stopped-pair}
use Rattle.play_analyser.proofs.CubeLosses.{answer-tightens}
use Rattle.play_analyser.proofs.answers.answer_pairs.Goals as goal

pub returns-in_err-pair-clause-looked : goal.returns-in_err-pair-clause-looked
returns-in_err-pair-clause-looked g c =
    let s = (g.P.Pairs.seen c.args.pairs.now).source in
    let answers = c.args.double.now.answers.items in
    let here : c.loop-taken.taken-index < length answers = rw (← c.loop-taken.invariant.answers) c.loop-taken-test.true in
    let p = err_from_is_err_and c.from_residual.result c.from_residual.ensures.1 in
    rw (p.1, p.2) (then-err s _ _ _ _ _ _ _ _ _ _ _ _ c.loop-taken.found _ c.loop-taken.invariant.found (rw (c.loop-taken.invariant.source, c.loop-taken.invariant.answers) at c.in_err-pair.ensures.looked)
    (λ damage told met. stopped-pair s (of_answer c.args.stakes.now c.args.ends.now) _ told answers c.loop-taken.taken-index (get_or answers c.loop-taken.taken-index no_answer) damage c.loop-taken.found.items here (an_answer answers c.loop-taken.taken-index here) c.loop-taken.invariant.found.answer met))

pub loop-taken-preserved : goal.loop-taken-preserved
loop-taken-preserved g c =
    let s = (g.P.Pairs.seen c.args.pairs.now).source in
    let answers = c.args.double.now.answers.items in
    let i = c.loop-taken.taken-index in
    let stakes = c.args.stakes.now in
    let p = c.args.ends.now in
    let here : i < length answers = rw (← c.loop-taken.invariant.answers) c.loop-taken-test.true in
    let pair = rw (c.loop-taken.invariant.source, c.loop-taken.invariant.answers) at c.in_ok-pair.ensures.looked in
    record {
      answers = c.loop-taken.invariant.answers;
      source = c.roll_bounds.ensures.source ∙ c.loop-taken.invariant.source;
      stays = c.roll_bounds.ensures.stays ∙ c.loop-taken.invariant.stays;
      many = omega (arith, c.push.ensures.len, c.loop-taken.invariant.many);
      found = next-pair s (of_answer stakes p) answers _ _ _ _ _ _ i (get_or answers i no_answer) c.loop-taken.found c.push.new.self c.in_ok-pair.pair here (an_answer answers i here)
          (answer-tightens s stakes c.requires.valid c.requires.stakes p c.requires.states c.args.double.now c.requires.right) c.push.ensures.items c.loop-taken.invariant.found pair;
    }
