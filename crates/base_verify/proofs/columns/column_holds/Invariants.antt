use Rattle.std.proofs.Common.{◌<◌, ℕ, length}
use Rattle.base_verify.specs.Columns.{KindHolds}
use Rattle.base_verify.proofs.columns.column_holds.Given as goal

abbrev pub invariant-loop-kind : goal.invariant-loop-kind
invariant-loop-kind l = (k : ℕ) → k < l.kind → KindHolds l.words l.turns k (length l.turns.movers)
