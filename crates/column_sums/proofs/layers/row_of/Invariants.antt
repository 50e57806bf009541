use Rattle.std.proofs.Common.{◌≡◌, length}
use Rattle.column_sums.specs.Leaps.{AreNextTo}
use Rattle.column_sums.proofs.layers.row_of.Given as goal

abbrev pub invariant-loop-point : goal.invariant-loop-point
invariant-loop-point l = record {
  points : length l.next ≡ 25;
  next : AreNextTo l.others l.layer l.next l.point;
}
