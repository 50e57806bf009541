use Rattle.std.proofs.Common.{◌≡◌, ◌∷◌, ◌+◌, ◌-◌, ◌<◌, ℕ, List, [], All, length, arith, refl, ap, sym, subst, ◌∙◌, length-append}
use Rattle.std.proofs.lemmas.List.{map_push}
use Rattle.std.proofs.lemmas.List.Elements.{All-append, All-nil, All-push}
use Rattle.block_claims.specs.Views.{fresh}
use Rattle.interval_words.specs.Core.{all_hands}
use Rattle.interval_words.specs.Seats.{SitsAt, giving, hiring}
use Rattle.worker_sweep.specs.Workers.{SeatsAndMarks, IsReady}
use Rattle.worker_sweep.specs.Shares.{HasDone, share_of, shares_of, with_hands}
use Rattle.worker_sweep.proofs.RoundLemmas.{begins, All-one}
use Rattle.worker_sweep.proofs.ShareLemmas.{done-none}
use Rattle.worker_sweep.proofs.rounds.make_crew.Goals as goal

pub loop-number-init : goal.loop-number-init
loop-number-init c = record {
  seat = λ i. with_hands c.args.seat.now (c.requires.hands i);
  claim_seat = refl;
  many = ap length c.new-crew.ensures.items;
  ready =
      let P = IsReady c.args.board.now c.args.claims.now c.args.seat.now.view.base in
      subst (All P) (sym c.new-crew.ensures.items) (All-nil P);
  done =
      let D = HasDone c.args.board.now.game 0 in
      subst (λ (crew : List SeatsAndMarks). All D (shares_of crew)) (sym c.new-crew.ensures.items) (All-nil D);
}

pub hire-board_seat-requires : goal.hire-board_seat-requires
hire-board_seat-requires c = record {
  seat = subst (SitsAt c.args.board.now) (sym c.loop-number.invariant.seat) (record { table = c.requires.seat.table; game = c.requires.seat.game });
  spare = omega (arith, ap (λ s. s.view.hands) c.loop-number.invariant.seat, c.loop-number-test.true, c.requires.many);
}

pub loop-number-preserved : goal.loop-number-preserved
loop-number-preserved c =
    let board = c.args.board.now in
    let number = c.loop-number.number in
    let own = c.hire-board_seat.result in
    let worker = c.in_ok-new.field-0 in
    let before = c.loop-number.invariant in
    let less : all_hands - number - 1 ≡ all_hands - (number + 1) = omega arith in
    let seats : c.hire-board_seat.new.seat ≡ with_hands c.args.seat.now (all_hands - (number + 1)) = c.hire-board_seat.ensures.seat ∙ (ap giving before.seat ∙ ap (with_hands c.args.seat.now) less) in
    let claimers = c.split-own_claims.ensures.seat ∙ before.claim_seat in
    let own_is : own ≡ hiring c.args.seat.now = c.hire-board_seat.ensures.hired ∙ ap hiring before.seat in
    let sits : SitsAt board own = subst (SitsAt board) (sym own_is) (record { table = c.requires.seat.table; game = c.requires.seat.game }) in
    let hand : 0 < own.view.hands = omega (arith, ap (λ s. s.view.hands) own_is) in
    let P = IsReady board c.args.claims.now c.args.seat.now.view.base in
    let ready : P worker = subst (λ (n : ℕ). IsReady board c.args.claims.now n worker) (ap (λ s. s.view.base) own_is) (begins board c.args.claims.now number own _ worker sits hand (ap (λ s. s.table) c.split-own_claims.ensures.other) c.in_ok-new.ensures) in
    let none : share_of worker ≡ record { claims = fresh; work = []; hands = 1 } = ap share_of c.in_ok-new.ensures ∙ (λ i. record { claims = (c.split-own_claims.ensures.other i).view; work = (own_is i).view.work; hands = (own_is i).view.hands }) in
    let D = HasDone board.game 0 in
    record {
      seat = seats;
      claim_seat = claimers;
      many = ap length c.in_ok-push.ensures.items ∙ (length-append c.loop-number.crew.items (worker ∷ []) ∙ ap (λ n. n + 1) before.many);
      ready = subst (All P) (sym c.in_ok-push.ensures.items) (All-append P c.loop-number.crew.items (worker ∷ []) before.ready (All-one P worker ready));
      done = subst (All D) (sym (ap shares_of c.in_ok-push.ensures.items ∙ map_push share_of c.loop-number.crew.items worker)) (All-push D (shares_of c.loop-number.crew.items) (share_of worker) before.done (done-none board.game (share_of worker) none));
    }
