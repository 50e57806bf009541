use Rattle.std.proofs.Common.{◌≡◌, vec_capacity}
use Rattle.column_sums.specs.AfterHits.{AreHits}
use Rattle.column_sums.proofs.layers.add_hits.Given as goal

abbrev pub invariant-loop-point : goal.invariant-loop-point
invariant-loop-point l = record {
  hits : AreHits l.other l.others.items l.point;
  capacity : vec_capacity l.others ≡ vec_capacity l.fn.others;
}
