use Rattle.std.proofs.Common.{◌≤◌, ℕ, List, length, subst, vec_capacity}
use Rattle.column_sums.proofs.Listed.{few-cells}
use Rattle.column_sums.proofs.listing.Listing.cells.Goals as goal

pub returns-clause-few : goal.returns-clause-few
returns-clause-few c = subst (λ (xs : List ℕ). length xs ≤ 32768) c.self.view_is (few-cells c.self.inside.cells.items (vec_capacity c.self.inside.cells) c.self.inside.marks.items c.self.invariant)
