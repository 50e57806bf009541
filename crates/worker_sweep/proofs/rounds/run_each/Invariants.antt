use Rattle.std.proofs.Common.{◌≡◌, ◌≤◌, ℕ, All, IfSome, length}
use Rattle.turn_rule.specs.Turn.{rounds}
use Rattle.interval_words.specs.WordLists.{AreNarrow}
use Rattle.worker_sweep.specs.Workers.{IsReady}
use Rattle.worker_sweep.specs.Shares.{HasDone, IsOnLeft, shares_of}
use Rattle.worker_sweep.proofs.rounds.run_each.Given as goal

abbrev pub invariant-loop-base : goal.invariant-loop-base
invariant-loop-base g l = record {
  owner : IsReady l.board l.claims l.base l.owner;
  workers : All (IsReady l.board l.claims l.base) l.crew;
  claims : l.owner.claims ≡ l.initial.owner.claims;
  hands : l.owner.seat.view.hands ≡ l.initial.owner.seat.view.hands;
  many : length l.crew ≡ length l.initial.crew;
  done : All (HasDone l.board.game l.base) (shares_of l.crew);
  rest : All (IsOnLeft l.board.game l.base (shares_of l.crew)) l.owner.seat.view.work;
  unmet : (earlier : ℕ) → 1 ≤ earlier → earlier ≤ l.base → IfSome l.goal (λ widest. AreNarrow l.board.game (rounds l.board.game.stakes earlier) widest → ⊥);
}
