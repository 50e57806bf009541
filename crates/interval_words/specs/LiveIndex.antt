-- A table of live ranks.
use Rattle.std.specs.Prelude.{◌≡◌, ◌≤◌, ◌<◌, ◌*◌, ℕ, List, length, slice_index}
use Rattle.position_rank.specs.Ranks.{layouts}
use Rattle.position_rank.specs.LiveRanks.{live_below, live_positions}

-- for each square before this one, how many live positions have a smaller square rank
abbrev pub AreCounted : ℕ → List ℕ → ℕ → Type 0
AreCounted checkers below square =
    (before : ℕ) → before < square → slice_index below before ≡ live_below checkers before

-- for each pair of layouts of one to three checkers, how many live positions have a smaller square rank, and how many there are in all
pub record IsLiveIndex (checkers : ℕ) (below : List ℕ) (live : ℕ) : Type 0 where
  pub low : 1 ≤ checkers
  pub high : checkers ≤ 3
  pub many : length below ≡ layouts checkers * layouts checkers
  pub each : AreCounted checkers below (length below)
  pub all : live ≡ live_positions checkers
