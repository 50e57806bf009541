use Rattle.std.proofs.Common.{◌≡◌, ◌*◌}
use Rattle.position_rank.specs.Ranks.{layouts}
use Rattle.position_rank.specs.LiveRanks.{live_below}
use Rattle.position_rank.proofs.live.count_below.Given as goal

abbrev pub invariant-loop-row : goal.invariant-loop-row
invariant-loop-row l = l.live ≡ live_below l.checkers (l.row * layouts l.checkers)
