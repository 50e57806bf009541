use Rattle.std.proofs.Common.{◌≡◌, ◌<◌, length, get_or, take, List, ap, arith, sym, ◌∙◌}
use Rattle.std.proofs.lemmas.List.{length-set, map_more, take_all}
use Rattle.block_claims.specs.Claiming.{with_taken}
use Rattle.worker_sweep.specs.Workers.{SeatsAndMarks}
use Rattle.worker_sweep.specs.Shares.{share_of, shares_of, all_claims}
use Rattle.worker_sweep.proofs.RoundLemmas.{rest-same}
use Rattle.worker_sweep.proofs.ShareLemmas.{map-set, claims-push}
use Rattle.worker_sweep.proofs.rounds.hand_all.Goals as goal

pub hand_claims-requires-clause-own : goal.hand_claims-requires-clause-own
hand_claims-requires-clause-own c =
    let before = c.loop-worker.invariant in
    let i = c.loop-worker.worker-index in
    let none = c.worker-item.result in
    let here : i < length c.loop-worker.crew = omega (arith, c.loop-worker-test.true, before.many) in
    let inside : i < length c.args.crew.now = omega (arith, here, before.many) in
    ap (λ w. w.claims.table) (before.same i none (omega arith) here) ∙ c.requires.crew i none inside

pub loop-worker-preserved : goal.loop-worker-preserved
loop-worker-preserved c =
    let before = c.loop-worker.invariant in
    let i = c.loop-worker.worker-index in
    let none = c.worker-item.result in
    let first = c.args.crew.now in
    let here : i < length c.loop-worker.crew = omega (arith, c.loop-worker-test.true, before.many) in
    let inside : i < length first = omega (arith, here, before.many) in
    let new = c.hand_claims.new.self in
    let item : get_or c.loop-worker.crew i none ≡ get_or first i none = before.same i none (omega arith) here in
    record {
      table = ap (λ s. s.table) c.hand_claims.ensures.seat ∙ before.table;
      seat =
          ap (λ s. s.view) c.hand_claims.ensures.seat
          ∙ ((λ j. with_taken (before.seat j) (item j).claims.view)
          ∙ (sym (claims-push (shares_of (take i first)) (share_of (get_or first i none)))
          ∙ ap all_claims (sym (map_more share_of first i none inside))));
      many = length-set c.loop-worker.crew i new ∙ before.many;
      same = rest-same first c.loop-worker.crew i new before.same;
      works = map-set (λ (w : SeatsAndMarks). w.seat.view.work) c.loop-worker.crew i new none here (ap (λ s. s.view.work) c.hand_claims.ensures.own) ∙ before.works;
      hands = map-set (λ (w : SeatsAndMarks). w.seat.view.hands) c.loop-worker.crew i new none here (ap (λ s. s.view.hands) c.hand_claims.ensures.own) ∙ before.hands;
    }

pub returns-clause-seat : goal.returns-clause-seat
returns-clause-seat c = c.loop-worker.invariant.seat ∙ ap (λ (crew : List SeatsAndMarks). all_claims (shares_of crew)) (take_all c.loop-worker.worker-index _ (omega (arith, c.loop-worker-test.false)))
