use Rattle.std.proofs.Common.{◌∙◌, arith}
use Rattle.std.proofs.lemmas.Result.{err_from_is_err_and}
use Rattle.turn_rule.specs.Found.{LeavesState, of_play}
use Rattle.turn_rule.proofs.Found.{then-err}
use Rattle.turn_rule.proofs.Within.{at_member}
use Rattle.play_analyser.proofs.PairLists.{next-pair, play-tightens}
use Rattle.play_analyser.proofs.LossPairs.{stopped-pair}
use Rattle.play_analyser.proofs.play_pairs.play_pairs.Goals as goal

pub returns-in_err-pair-clause-looked : goal.returns-in_err-pair-clause-looked
returns-in_err-pair-clause-looked g c =
    let s = (g.P.Pairs.seen c.args.pairs.now).source in
    let p = err_from_is_err_and c.from_residual.result c.from_residual.ensures.1 in
    rw (p.1, p.2) (then-err s _ _ _ _ _ _ _ _ _ _ _ _ c.loop-left.found _ c.loop-left.invariant.found (rw c.loop-left.invariant.source at c.in_err-pair.ensures.looked)
    (λ damage told met. stopped-pair s (of_play c.args.kind.now) _ told c.args.ends.now c.loop-left.left-index c.left-item.result damage c.loop-left.found.items c.loop-left-test.true c.left-item.is c.loop-left.invariant.found.answer met))

pub loop-left-preserved : goal.loop-left-preserved
loop-left-preserved g c =
    let s = (g.P.Pairs.seen c.args.pairs.now).source in
    let kind = c.args.kind.now in
    record {
      source = c.play_pair.ensures.source ∙ c.loop-left.invariant.source;
      stays = c.play_pair.ensures.stays ∙ c.loop-left.invariant.stays;
      many = omega (arith, c.push.ensures.len, c.loop-left.invariant.many);
      found = next-pair s (of_play kind) c.args.ends.now _ _ _ _ _ _ c.loop-left.left-index c.left-item.result c.loop-left.found c.push.new.self c.in_ok-pair.pair c.loop-left-test.true c.left-item.is
          (λ q m. play-tightens s kind q (at_member (LeavesState s kind.next) c.args.ends.now c.requires.states q m)) c.push.ensures.items c.loop-left.invariant.found (rw c.loop-left.invariant.source at c.in_ok-pair.ensures.looked);
    }
