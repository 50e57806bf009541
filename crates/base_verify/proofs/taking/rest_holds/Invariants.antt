use Rattle.base_verify.specs.Columns.{ColumnsHold}
use Rattle.base_verify.proofs.taking.rest_holds.Given as goal

abbrev pub invariant-loop-other : goal.invariant-loop-other
invariant-loop-other l = ColumnsHold l.words 0 l.other
