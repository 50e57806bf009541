use Rattle.std.proofs.Common.{◌+◌, ◌<◌, ◌≤◌}
use Rattle.position_rank.specs.Ranks.{choose}
use Rattle.position_rank.proofs.rank.top_place.Given as goal

abbrev pub invariant-loop-place : goal.invariant-loop-place
invariant-loop-place l = record { within : l.place ≤ 25; below : l.rank < choose (l.place + l.number) l.number }

abbrev pub decreases-loop-place : goal.decreases-loop-place
decreases-loop-place l = l.place
