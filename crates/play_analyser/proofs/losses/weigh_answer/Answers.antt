use Rattle.std.proofs.Common.{Option, map, subst}
use Rattle.directed_fixed.specs.Bounds.{negated}
use Rattle.cube_actions.specs.Stakes.{kind_at}
use Rattle.turn_rule.proofs.Found.{mapped-ok}
use Rattle.play_analyser.specs.declared.advice.CubeAction.{CubeAction}
use Rattle.play_analyser.specs.Advice.{IsAdviceOn}
use Rattle.play_analyser.specs.Choices.{answer_options}
use Rattle.play_analyser.proofs.LossPairs.{loss-positive}
use Rattle.play_analyser.proofs.Weighing.{Advises, all-taken-near, answer-weighed, answers-many}
use Rattle.play_analyser.proofs.losses.weigh_answer.Goals as goal

pub answer_loss-requires-clause-taken : goal.answer_loss-requires-clause-taken
answer_loss-requires-clause-taken g c =
    let s = (g.P.Pairs.seen c.args.pairs.now).source in
    let w = (g.P.Pairs.seen c.cube_advice.new.pairs).notes in
    let stakes = c.args.stakes.now in
    let p = c.args.position.now in
    let k = c.args.kind in
    let advice = c.in_ok-action.field-0 in
    let is = c.in_ok-action.ensures.looked.answer in
    let on = subst (λ (o : Option CubeAction). IsAdviceOn (kind_at stakes k).double o (Advises s stakes c.requires.valid c.requires.stakes p k c.requires.state w advice.no_double is.no_double c.in-Some.action)) c.in-Some.is is.action in
    rw (c.as_slice.ensures.value, c.taken_of.ensures) (all-taken-near s stakes c.requires.valid c.requires.stakes p k c.requires.state w advice.no_double is.no_double c.in-Some.action on)

pub answer_loss-requires-clause-answer : goal.answer_loss-requires-clause-answer
answer_loss-requires-clause-answer g c =
    let s = (g.P.Pairs.seen c.args.pairs.now).source in
    let w = (g.P.Pairs.seen c.cube_advice.new.pairs).notes in
    let stakes = c.args.stakes.now in
    let p = c.args.position.now in
    let k = c.args.kind in
    let advice = c.in_ok-action.field-0 in
    let is = c.in_ok-action.ensures.looked.answer in
    let on = subst (λ (o : Option CubeAction). IsAdviceOn (kind_at stakes k).double o (Advises s stakes c.requires.valid c.requires.stakes p k c.requires.state w advice.no_double is.no_double c.in-Some.action)) c.in-Some.is is.action in
    rw (c.as_slice.ensures.value, c.taken_of.ensures) (answers-many s stakes c.requires.valid c.requires.stakes p k c.requires.state w advice.no_double is.no_double c.in-Some.action on c.args.answer c.requires.choice)

pub returns-clause-looked : goal.returns-clause-looked
returns-clause-looked g c =
    let s = (g.P.Pairs.seen c.args.pairs.now).source in
    let w = (g.P.Pairs.seen c.cube_advice.new.pairs).notes in
    let stakes = c.args.stakes.now in
    let p = c.args.position.now in
    let k = c.args.kind in
    let advice = c.in_ok-action.field-0 in
    let lost = rw (c.as_slice.ensures.value, c.taken_of.ensures) at c.answer_loss.ensures in
    mapped-ok s _ _ _ _ _ _ _ _ advice _ c.in_ok-action.ensures.looked
    (λ is. (let on = subst (λ (o : Option CubeAction). IsAdviceOn (kind_at stakes k).double o (Advises s stakes c.requires.valid c.requires.stakes p k c.requires.state w advice.no_double is.no_double c.in-Some.action)) c.in-Some.is is.action in record {
      loss = rw lost (answer-weighed s stakes c.requires.valid c.requires.stakes p k c.requires.state w advice.no_double is.no_double c.in-Some.action on c.args.answer);
      best = (advice, is, rw c.in-Some.is c.best_answer.ensures);
    }))

pub returns-clause-from : goal.returns-clause-from
returns-clause-from g c = rw c.answer_loss.ensures (loss-positive (answer_options (negated c.in-Some.action.pass) (map negated c.as_slice.result.now) c.args.answer))
