use Rattle.std.proofs.Common.{◌<◌, ◌≤◌, ◌∙◌, pos, ◌≤ℤ◌, length, get_or}
use Rattle.std.proofs.lemmas.Result.{err_from_is_err_and}
use Rattle.turn_rule.proofs.Found.{then-err}
use Rattle.turn_rule.proofs.Values.{next-answer, all-answers, stopped-answer, answer-at, no_answer, an_answer, min-most, within-positive}
use Rattle.turn_rule.proofs.value.doubled_at.Goals as goal

pub roll_at-requires-clause-state : goal.roll_at-requires-clause-state
roll_at-requires-clause-state g c =
    let s = (g.P.Pairs.seen c.args.pairs.now).source in
    let here : c.loop-taken.taken-index < length c.args.double.now.answers.items = rw (← c.loop-taken.invariant.answers) c.loop-taken-test.true in
    let answer = answer-at c.args.stakes.now c.args.double.now c.loop-taken.taken-index c.requires.right here in
    rw (c.loop-taken.invariant.source, c.loop-taken.invariant.answers)
    (c.requires.states (get_or c.args.double.now.answers.items c.loop-taken.taken-index no_answer).kind (rw c.requires.stakes.kinds answer.0))

pub returns-in_err-value-clause-found : goal.returns-in_err-value-clause-found
returns-in_err-value-clause-found g c =
    let s = (g.P.Pairs.seen c.args.pairs.now).source in
    let answers = c.args.double.now.answers.items in
    let here : c.loop-taken.taken-index < length answers = rw (← c.loop-taken.invariant.answers) c.loop-taken-test.true in
    let stopped = rw (c.loop-taken.invariant.source, c.loop-taken.invariant.answers) at c.in_err-value.ensures.found in
    let p = err_from_is_err_and c.from_residual.result c.from_residual.ensures.1 in
    rw (p.1, p.2) (then-err s _ _ _ _ _ _ _ _ _ _ _ _ c.loop-taken.least _ c.loop-taken.invariant.found stopped
    (λ damage told met. stopped-answer c.args.end s c.args.stakes.now c.args.ends.now c.args.double.now c.loop-taken.taken-index (get_or answers c.loop-taken.taken-index no_answer) damage here (an_answer answers c.loop-taken.taken-index here) (c.loop-taken.invariant.found.answer.right told) met))

pub loop-taken-preserved : goal.loop-taken-preserved
loop-taken-preserved g c =
    let s = (g.P.Pairs.seen c.args.pairs.now).source in
    let answers = c.args.double.now.answers.items in
    let i = c.loop-taken.taken-index in
    let here : i < length answers = rw (← c.loop-taken.invariant.answers) c.loop-taken-test.true in
    let answer = answer-at c.args.stakes.now c.args.double.now i c.requires.right here in
    let positive : pos 0 ≤ℤ s.bound = rw c.requires.stakes.bound (within-positive c.args.stakes.now.bound c.args.double.now.pass c.requires.right.pass) in
    let value = rw (c.loop-taken.invariant.source, c.loop-taken.invariant.answers) at c.in_ok-value.ensures.found in
    record {
      answers = c.loop-taken.invariant.answers;
      source = c.roll_at.ensures.source ∙ c.loop-taken.invariant.source;
      stays = c.roll_at.ensures.stays ∙ c.loop-taken.invariant.stays;
      found = next-answer c.args.end s c.args.stakes.now c.args.ends.now c.args.double.now _ _ _ _ _ _ _ i (get_or answers i no_answer) c.loop-taken.least c.in_ok-value.value _ here (an_answer answers i here) answer.1 positive c.min-least.ensures c.loop-taken.invariant.found value;
      most = rw c.min-least.ensures (min-most s.bound c.loop-taken.least c.in_ok-value.value c.loop-taken.invariant.most);
    }

pub returns-clause-found : goal.returns-clause-found
returns-clause-found g c =
    let past : length c.args.double.now.answers.items ≤ c.loop-taken.taken-index = rw (← c.loop-taken.invariant.answers) c.loop-taken-test.false in
    all-answers c.args.end (g.P.Pairs.seen c.args.pairs.now).source c.args.stakes.now c.args.ends.now c.args.double.now _ _ _ _ _ c.loop-taken.taken-index c.loop-taken.least past c.loop-taken.invariant.found
