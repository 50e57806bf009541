use Rattle.std.proofs.Common.{◌*◌, ℕ, List, sym, subst}
use Rattle.column_sums.specs.Grids.{AreFansTo}
use Rattle.column_sums.proofs.steps.Steps.new.Goals as goal

pub add_fans-requires-clause-before : goal.add_fans-requires-clause-before
add_fans-requires-clause-before c = subst (λ (xs : List (List ℕ)). AreFansTo xs c.loop-rank.fans.items (c.loop-rank.rank * 6)) (sym c.as_slice.ensures.value) c.loop-rank.invariant
