use Rattle.std.proofs.Common.{◌≡◌, ◌≤◌, ◌*◌, ◌-◌}
use Rattle.position_rank.specs.Ranks.{layouts}
use Rattle.position_rank.specs.LiveRanks.{live_below}
use Rattle.position_rank.proofs.live.live_unrank.Given as goal

abbrev pub invariant-loop-position : goal.invariant-loop-position
invariant-loop-position l = record { so_far : l.seen ≡ live_below l.checkers l.square; few : l.seen ≤ l.rank }

abbrev pub decreases-loop-position : goal.decreases-loop-position
decreases-loop-position l = layouts l.checkers * layouts l.checkers - l.square
