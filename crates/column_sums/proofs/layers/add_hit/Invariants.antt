use Rattle.std.proofs.Common.{◌≡◌, vec_capacity}
use Rattle.column_sums.specs.AfterHits.{AreHitOn}
use Rattle.column_sums.proofs.layers.add_hit.Given as goal

abbrev pub invariant-loop-layer : goal.invariant-loop-layer
invariant-loop-layer l = record {
  hit : AreHitOn l.point l.layer l.fn.others.items l.others.items;
  capacity : vec_capacity l.others ≡ vec_capacity l.fn.others;
}
