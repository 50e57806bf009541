use Rattle.std.proofs.Common.{◌≡◌, ◌<◌, ◌+◌, length, get_or, append-nil, ap, arith, sym, subst, ◌∙◌}
use Rattle.std.proofs.lemmas.List.{length-set}
use Rattle.worker_sweep.specs.Workers.{IsAtWork, IsReady}
use Rattle.worker_sweep.specs.Shares.{share_of}
use Rattle.worker_sweep.proofs.RoundLemmas.{follows, first-more, rest-still}
use Rattle.worker_sweep.proofs.ShareLemmas.{map-set}
use Rattle.worker_sweep.proofs.rounds.follow_all.Goals as goal

pub loop-worker-preserved : goal.loop-worker-preserved
loop-worker-preserved c =
    let board = c.args.board.now in
    let claims = c.args.claims.now in
    let before = c.loop-worker.invariant in
    let i = c.loop-worker.worker-index in
    let here : i < length c.loop-worker.crew = omega (arith, c.loop-worker-test.true, before.many) in
    let item = get_or c.loop-worker.crew i c.worker-item.result in
    let new = c.follow.new.self in
    let at : IsReady board claims c.args.base item = before.rest i c.worker-item.result (omega arith) here in
    let own = subst (IsAtWork board claims (c.args.base + 1)) (sym before.owner) c.requires.owner in
    let still : item.seat.view.hands + 0 ≡ item.seat.view.hands = omega arith in
    record {
      owner = c.follow.ensures.other ∙ before.owner;
      many = length-set c.loop-worker.crew i new ∙ before.many;
      ready = first-more (IsReady board claims (c.args.base + 1)) c.loop-worker.crew i new here before.ready (follows board claims c.args.base c.loop-worker.owner item new own at c.follow.ensures.seat);
      rest = rest-still (IsReady board claims c.args.base) c.loop-worker.crew i new before.rest;
      shares = map-set share_of c.loop-worker.crew i new c.worker-item.result here (ap share_of c.follow.ensures.seat ∙ (λ j. record { claims = item.claims.view; work = append-nil item.seat.view.work j; hands = still j })) ∙ before.shares;
    }
