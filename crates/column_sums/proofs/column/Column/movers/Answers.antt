use Rattle.std.proofs.Common.{◌≡◌, ℕ, List, length, take, ap, arith}
use Rattle.column_sums.specs.ColumnOf.{ColumnOf}
use Rattle.column_sums.proofs.Listed.{few-first}
use Rattle.column_sums.proofs.column.Column.movers.Goals as goal

pub returns-clause-few : goal.returns-clause-few
returns-clause-few c =
    let moves = c.self.inside.moves in
    let few = few-first moves.listing moves.movers (length moves.steps) c.self.invariant.within c.self.invariant.begun c.cells.ensures.apart in
    let same : length (take moves.movers c.cells.result.now) ≡ length (take moves.movers moves.listing) = ap (λ (xs : List ℕ). length (take moves.movers xs)) c.cells.ensures.cells in
    let many : length moves.steps ≡ length c.args.self.now.layouts = ap (λ (v : ColumnOf). length v.layouts) c.self.view_is in
    omega (arith, few, same, many)
