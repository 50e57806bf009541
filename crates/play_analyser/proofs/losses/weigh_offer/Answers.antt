use Rattle.std.proofs.Common.{Option, subst}
use Rattle.cube_actions.specs.Stakes.{kind_at}
use Rattle.turn_rule.proofs.Found.{mapped-ok}
use Rattle.play_analyser.specs.declared.advice.CubeAction.{CubeAction}
use Rattle.play_analyser.specs.Advice.{IsAdviceOn}
use Rattle.play_analyser.specs.Choices.{offer_options}
use Rattle.play_analyser.proofs.LossPairs.{loss-positive}
use Rattle.play_analyser.proofs.Weighing.{Advises, doubling-near, offer-weighed}
use Rattle.play_analyser.proofs.losses.weigh_offer.Goals as goal

pub offer_loss-requires-clause-doubling : goal.offer_loss-requires-clause-doubling
offer_loss-requires-clause-doubling g c =
    let s = (g.P.Pairs.seen c.args.pairs.now).source in
    let w = (g.P.Pairs.seen c.cube_advice.new.pairs).notes in
    let stakes = c.args.stakes.now in
    let p = c.args.position.now in
    let k = c.args.kind in
    let advice = c.in_ok-no_double.field-0 in
    let is = c.in_ok-no_double.ensures.looked.answer in
    let on = subst (λ (o : Option CubeAction). IsAdviceOn (kind_at stakes k).double o (Advises s stakes c.requires.valid c.requires.stakes p k c.requires.state w advice.no_double is.no_double c.in-Some.action)) c.in-Some.is is.action in
    rw c.doubling_of.ensures (doubling-near s stakes c.requires.valid c.requires.stakes p k c.requires.state w advice.no_double is.no_double c.in-Some.action on)

pub returns-clause-looked : goal.returns-clause-looked
returns-clause-looked g c =
    let s = (g.P.Pairs.seen c.args.pairs.now).source in
    let w = (g.P.Pairs.seen c.cube_advice.new.pairs).notes in
    let stakes = c.args.stakes.now in
    let p = c.args.position.now in
    let k = c.args.kind in
    let advice = c.in_ok-no_double.field-0 in
    mapped-ok s _ _ _ _ _ _ _ _ advice _ c.in_ok-no_double.ensures.looked
    (λ is. (let on = subst (λ (o : Option CubeAction). IsAdviceOn (kind_at stakes k).double o (Advises s stakes c.requires.valid c.requires.stakes p k c.requires.state w advice.no_double is.no_double c.in-Some.action)) c.in-Some.is is.action in record {
      loss = rw (c.offer_loss.ensures, c.doubling_of.ensures) (offer-weighed s stakes c.requires.valid c.requires.stakes p k c.requires.state w advice.no_double is.no_double c.in-Some.action on c.args.offer);
      best = (advice, is, rw c.in-Some.is c.best_offer.ensures);
    }))

pub returns-clause-from : goal.returns-clause-from
returns-clause-from g c = rw c.offer_loss.ensures (loss-positive (offer_options c.in_ok-no_double.field-0.no_double c.doubling_of.result c.args.offer))
