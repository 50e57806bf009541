use Rattle.std.proofs.Common.{◌≡◌, length}
use Rattle.position_rank.specs.Points.{AreFirstPoints}
use Rattle.position_rank.proofs.points.all_other_points.Given as goal

abbrev pub invariant-loop-rank : goal.invariant-loop-rank
invariant-loop-rank l = record { points : AreFirstPoints l.checkers l.all.items; many : length l.all.items ≡ l.rank }
