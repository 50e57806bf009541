use Rattle.base_verify.specs.Columns.{KindHolds}
use Rattle.base_verify.proofs.columns.kind_holds.Given as goal

abbrev pub invariant-loop-i : goal.invariant-loop-i
invariant-loop-i l = KindHolds l.words l.turns l.kind l.i
