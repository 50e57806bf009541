use Rattle.std.proofs.Common.{◌≡◌, ◌<◌, ◌≤◌, ℕ, length, slice_index}
use Rattle.position_rank.specs.LiveRanks.{live_rank_of}
use Rattle.game_census.specs.Censuses.{AddsState, census_at}
use Rattle.game_census.proofs.cube.add_states.Given as goal

-- the states of the first kinds were added, and the other censuses are as they were
abbrev pub invariant-loop-i : goal.invariant-loop-i
invariant-loop-i l = record {
  many : length l.censuses ≡ 14;
  added : (rank j : ℕ) → live_rank_of l.ends ≡ rank → j < l.i → AddsState l.words (slice_index l.kinds j) rank (census_at l.fn.censuses j) (census_at l.censuses j);
  same : (j : ℕ) → l.i ≤ j → census_at l.censuses j ≡ census_at l.fn.censuses j;
}
