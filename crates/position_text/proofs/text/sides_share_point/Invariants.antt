use Rattle.std.proofs.Common.{◌≡◌}
use Rattle.position_text.specs.Text.{share_point}
use Rattle.position_text.proofs.TextPlacements.{shared_from}
use Rattle.position_text.proofs.text.sides_share_point.Given as goal

abbrev pub invariant-loop-point : goal.invariant-loop-point
invariant-loop-point l = share_point l.position ≡ shared_from l.position l.point
