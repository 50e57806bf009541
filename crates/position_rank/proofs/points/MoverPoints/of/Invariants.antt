use Rattle.std.proofs.Common.{◌≡◌, ◌-◌, ◌↔◌, get_or}
use Rattle.std.specs.Int.{bit_at}
use Rattle.position_rank.specs.Placement.{InPlay}
use Rattle.position_rank.proofs.PointLaws.{AreMarked}
use Rattle.position_rank.proofs.points.MoverPoints.of.Given as goal

abbrev pub invariant-loop-point : goal.invariant-loop-point
invariant-loop-point l = record {
  marked : AreMarked l.bits (λ point. get_or l.layout (25 - point) 0) l.point;
  lowest : bit_at l.bits 0 ≡ 1;
  highest : (bit_at l.bits 25 ≡ 0) ↔ InPlay l.layout;
}
