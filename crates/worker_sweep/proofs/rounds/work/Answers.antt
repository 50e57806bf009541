use Rattle.std.proofs.Common.{◌≡◌, All, List, length, arith, subst, ap, sym, ◌∙◌}
use Rattle.std.proofs.lemmas.List.Elements.{All-weaker}
use Rattle.interval_words.specs.declared.view.Note.{Note}
use Rattle.interval_words.specs.Core.{noted}
use Rattle.worker_sweep.specs.LastRounds.{IsLastRound}
use Rattle.worker_sweep.specs.Workers.{SeatsAndMarks, IsReady}
use Rattle.worker_sweep.specs.Shares.{HasDone, IsOnLeft, shares_of, works_of, hands_of, all_claims}
use Rattle.worker_sweep.proofs.ShareLemmas.{take-first, works-shares, hands-shares, length-shares}
use Rattle.worker_sweep.proofs.rounds.work.Goals as goal

pub run_each-made-requires-clause-crew : goal.run_each-made-requires-clause-crew
run_each-made-requires-clause-crew g c κs within =
    let at = subst (λ n. All (IsReady c.args.board.now c.args.claims.now n) c.in_ok-crew.crew.items) (ap (λ s. s.view.base) c.requires.seat) c.in_ok-crew.ensures.crew in
    subst (All (IsReady c.args.board.now c.args.claims.now 0)) (sym c.deref_mut.ensures.value) at

pub run_each-made-requires-clause-done : goal.run_each-made-requires-clause-done
run_each-made-requires-clause-done g c κs within =
    subst (λ (crew : List SeatsAndMarks). All (HasDone c.args.board.now.game 0) (shares_of crew)) (sym c.deref_mut.ensures.value) c.in_ok-crew.ensures.done

pub hand_all-requires-clause-crew : goal.hand_all-requires-clause-crew
hand_all-requires-clause-crew g c =
    let crew = c.run_each-made.new.crew in
    let claims = c.args.claims.now in
    let many : c.in_ok-crew.crew.len ≡ length crew = sym (c.run_each-made.ensures.len ∙ c.deref_mut.ensures.len) in
    let same : c.deref_mut-2.result.now ≡ crew = c.deref_mut-2.ensures.value ∙ take-first c.in_ok-crew.crew.len crew _ many in
    subst (All (λ (worker : SeatsAndMarks). worker.claims.table ≡ claims.table)) (sym same)
    (All-weaker (IsReady c.args.board.now claims c.run_each-made.result) (λ (worker : SeatsAndMarks). worker.claims.table ≡ claims.table) (λ worker ready. ready.works.claimer) crew c.run_each-made.ensures.crew)

pub returns-clause-rounds : goal.returns-clause-rounds
returns-clause-rounds g c =
    let game = c.args.board.now.game in
    subst (λ (ns : List Note). IsLastRound game c.args.goal c.args.rounds (noted game ns) c.run_each-made.result) (sym (ap (λ s. s.view.notes) c.into_seats-owner.ensures.board)) c.run_each-made.ensures.last

pub returns-clause-divided : goal.returns-clause-divided
returns-clause-divided g c =
    let crew = c.run_each-made.new.crew in
    let long = c.in_ok-crew.crew.len in
    let many : long ≡ length crew = sym (c.run_each-made.ensures.len ∙ c.deref_mut.ensures.len) in
    let same : c.deref_mut-2.result.now ≡ crew = c.deref_mut-2.ensures.value ∙ take-first long crew _ many in
    let handed : long ≡ length c.hand_all.new.crew = many ∙ (sym (ap length same) ∙ sym c.hand_all.ensures.len) in
    let work : c.run_each-made.new.owner.seat.view.work ≡ c.into_seats-owner.result.0.view.work = sym (ap (λ s. s.view.work) c.into_seats-owner.ensures.board) in
    record {
      shares = shares_of crew;
      many = length-shares crew ∙ (c.run_each-made.ensures.len ∙ (ap length c.deref_mut.ensures.value ∙ (c.in_ok-crew.ensures.many ∙ c.workers.ensures.is)));
      claimed = c.hand_all.ensures.seat ∙ ap (λ (workers : List SeatsAndMarks). all_claims (shares_of workers)) same;
      once = c.has_each_once.ensures;
      worked = ap works_of (take-first long c.hand_all.new.crew _ handed) ∙ (c.hand_all.ensures.works ∙ (ap works_of same ∙ works-shares crew));
      handed = ap hands_of (take-first long c.hand_all.new.crew _ handed) ∙ (c.hand_all.ensures.hands ∙ (ap hands_of same ∙ hands-shares crew));
      hands = omega (arith, ap (λ s. s.view.hands) c.into_seats-owner.ensures.board, c.run_each-made.ensures.hands, ap (λ w. w.seat.view.hands) c.in_ok-crew.ensures.owner, ap (λ s. s.view.hands) c.requires.seat, c.workers.ensures.is, c.workers.ensures.high);
      done = c.run_each-made.ensures.done;
      rest = subst (All (IsOnLeft c.args.board.now.game c.run_each-made.result (shares_of crew))) work c.run_each-made.ensures.rest;
    }
