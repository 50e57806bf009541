use Rattle.std.proofs.Common.{◌<◌, length, get_or, ap, arith, ◌∙◌}
use Rattle.std.proofs.lemmas.List.{length-set}
use Rattle.worker_sweep.specs.Workers.{IsAtWork, IsReady}
use Rattle.worker_sweep.specs.Shares.{share_of}
use Rattle.worker_sweep.proofs.RoundLemmas.{works-on, unmarks, first-more, rest-still, rest-same, marks-more}
use Rattle.worker_sweep.proofs.ShareLemmas.{map-set, get_or-any}
use Rattle.worker_sweep.proofs.rounds.take_all_in.Goals as goal

pub loop-worker-preserved : goal.loop-worker-preserved
loop-worker-preserved c =
    let board = c.args.board.now in
    let claims = c.args.claims.now in
    let before = c.loop-worker.invariant in
    let i = c.loop-worker.worker-index in
    let here : i < length c.loop-worker.crew = omega (arith, c.loop-worker-test.true, before.many) in
    let inside : i < length c.args.crew.now = omega (arith, here, before.many) in
    let item = get_or c.loop-worker.crew i c.worker-item.result in
    let at : IsAtWork board claims c.args.base item = before.rest i c.worker-item.result (omega arith) here in
    record {
      owner = works-on board claims c.args.base c.loop-worker.owner _ before.owner c.take_in.ensures.seat c.take_in.ensures.many (ap (λ s. s.table) c.take_in.ensures.claims) c.take_in.ensures.number;
      work = c.take_in.ensures.work ∙ before.work;
      hands = c.take_in.ensures.seat.hands ∙ before.hands;
      claims = c.take_in.ensures.claims ∙ before.claims;
      marks = marks-more c.args.crew.now i c.loop-worker.owner c.take_in.new.self item (λ none. before.same i c.worker-item.result (omega arith) here ∙ get_or-any c.args.crew.now i c.worker-item.result none inside) c.take_in.ensures.marks before.marks;
      many = length-set c.loop-worker.crew i c.take_in.new.other ∙ before.many;
      ready = first-more (IsReady board claims c.args.base) c.loop-worker.crew i c.take_in.new.other here before.ready (unmarks board claims c.args.base item _ at c.take_in.ensures.other);
      rest = rest-still (IsAtWork board claims c.args.base) c.loop-worker.crew i c.take_in.new.other before.rest;
      same = rest-same c.args.crew.now c.loop-worker.crew i c.take_in.new.other before.same;
      shares = map-set share_of c.loop-worker.crew i c.take_in.new.other c.worker-item.result here (ap share_of c.take_in.ensures.other) ∙ before.shares;
    }

pub returns-clause-marks : goal.returns-clause-marks
returns-clause-marks c = λ k block none below. c.loop-worker.invariant.marks k block none (omega (arith, below, c.loop-worker-test.false, c.loop-worker.invariant.many))
