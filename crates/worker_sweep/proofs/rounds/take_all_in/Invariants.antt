use Rattle.std.proofs.Common.{◌≡◌, ◌<◌, ◌≤◌, ℕ, true, length, slice_index_or}
use Rattle.worker_sweep.specs.Workers.{SeatsAndMarks, IsAtWork, IsReady, is_marked}
use Rattle.worker_sweep.specs.Shares.{shares_of}
use Rattle.worker_sweep.proofs.rounds.take_all_in.Given as goal

abbrev pub invariant-loop-worker : goal.invariant-loop-worker
invariant-loop-worker l = record {
  owner : IsAtWork l.board l.claims l.base l.owner;
  work : l.owner.seat.view.work ≡ l.initial.owner.seat.view.work;
  hands : l.owner.seat.view.hands ≡ l.initial.owner.seat.view.hands;
  claims : l.owner.claims ≡ l.initial.owner.claims;
  marks : (k block : ℕ) (none : SeatsAndMarks) → k < l.worker-index → is_marked (slice_index_or l.initial.crew k none).marks block ≡ true → is_marked l.owner.marks block ≡ true;
  many : length l.crew ≡ length l.initial.crew;
  ready : (k : ℕ) (d : SeatsAndMarks) → k < l.worker-index → IsReady l.board l.claims l.base (slice_index_or l.crew k d);
  rest : (k : ℕ) (d : SeatsAndMarks) → l.worker-index ≤ k → k < length l.crew → IsAtWork l.board l.claims l.base (slice_index_or l.crew k d);
  same : (k : ℕ) (d : SeatsAndMarks) → l.worker-index ≤ k → k < length l.crew → slice_index_or l.crew k d ≡ slice_index_or l.initial.crew k d;
  shares : shares_of l.crew ≡ shares_of l.initial.crew;
}
