use Rattle.std.proofs.Common.{◌≡◌, ◌<◌, ◌≤◌, ℕ, length, take, slice_index_or}
use Rattle.worker_sweep.specs.Workers.{SeatsAndMarks}
use Rattle.worker_sweep.specs.Shares.{shares_of, works_of, hands_of, all_claims}
use Rattle.worker_sweep.proofs.rounds.hand_all.Given as goal

abbrev pub invariant-loop-worker : goal.invariant-loop-worker
invariant-loop-worker l = record {
  table : l.seat.table ≡ l.claims.table;
  seat : l.seat.view ≡ all_claims (shares_of (take l.worker-index l.initial.crew));
  many : length l.crew ≡ length l.initial.crew;
  same : (k : ℕ) (d : SeatsAndMarks) → l.worker-index ≤ k → k < length l.crew → slice_index_or l.crew k d ≡ slice_index_or l.initial.crew k d;
  works : works_of l.crew ≡ works_of l.initial.crew;
  hands : hands_of l.crew ≡ hands_of l.initial.crew;
}
