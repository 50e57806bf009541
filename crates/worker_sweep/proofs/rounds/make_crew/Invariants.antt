use Rattle.std.proofs.Common.{◌≡◌, ◌-◌, All, length}
use Rattle.worker_sweep.specs.Workers.{IsReady}
use Rattle.worker_sweep.specs.Shares.{HasDone, shares_of, with_hands}
use Rattle.interval_words.specs.Core.{all_hands}
use Rattle.worker_sweep.proofs.rounds.make_crew.Given as goal

abbrev pub invariant-loop-number : goal.invariant-loop-number
invariant-loop-number l = record {
  seat : l.seat ≡ with_hands l.initial.seat (all_hands - l.number);
  claim_seat : l.claim_seat ≡ l.initial.claim_seat;
  many : length l.crew.items ≡ l.number;
  ready : All (IsReady l.board l.claims l.initial.seat.view.base) l.crew.items;
  done : All (HasDone l.board.game 0) (shares_of l.crew.items);
}
