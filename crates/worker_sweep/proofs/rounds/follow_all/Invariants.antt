use Rattle.std.proofs.Common.{◌≡◌, ◌+◌, ◌<◌, ◌≤◌, ℕ, length, slice_index_or}
use Rattle.worker_sweep.specs.Workers.{SeatsAndMarks, IsReady}
use Rattle.worker_sweep.specs.Shares.{shares_of}
use Rattle.worker_sweep.proofs.rounds.follow_all.Given as goal

abbrev pub invariant-loop-worker : goal.invariant-loop-worker
invariant-loop-worker l = record {
  owner : l.owner ≡ l.initial.owner;
  many : length l.crew ≡ length l.initial.crew;
  ready : (k : ℕ) (d : SeatsAndMarks) → k < l.worker-index → IsReady l.board l.claims (l.base + 1) (slice_index_or l.crew k d);
  rest : (k : ℕ) (d : SeatsAndMarks) → l.worker-index ≤ k → k < length l.crew → IsReady l.board l.claims l.base (slice_index_or l.crew k d);
  shares : shares_of l.crew ≡ shares_of l.initial.crew;
}
