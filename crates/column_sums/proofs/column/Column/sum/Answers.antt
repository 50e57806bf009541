use Rattle.std.proofs.Common.{◌∙◌, ℤ, List, length, ap, sym, subst}
use Rattle.position_rank.specs.Placement.{Placement}
use Rattle.roll_table.specs.Rolls.{all_rolls}
use Rattle.directed_fixed.specs.declared.bounds.End.{End}
use Rattle.column_sums.specs.Cascade.{best_sum}
use Rattle.column_sums.specs.ColumnOf.{ColumnOf, AreColumnSums}
use Rattle.column_sums.specs.Sums.{AreSmall}
use Rattle.column_sums.specs.Tables.{IsNeededRow}
use Rattle.column_sums.specs.Worths.{cells_at, worths_at}
use Rattle.column_sums.specs.declared.best.Bests.{Bests}
use Rattle.column_sums.proofs.SumLemmas.{begun-is, begun-low}
use Rattle.column_sums.proofs.column.Column.sum.Goals as goal

pub returns-clause-small : goal.returns-clause-small
returns-clause-small c =
    let moves = c.self.inside.moves in
    let sums = c.sum_rolls.new.sums in
    subst (λ (v : ColumnOf). (end : End) → AreSmall (worths_at end sums) (length v.movers)) c.self.view_is
    (λ end i h. c.sum_rolls.ensures.small end i (begun-low moves i h))

pub returns-clause-sums : goal.returns-clause-sums
returns-clause-sums c =
    let moves = c.self.inside.moves in
    let sums = c.sum_rolls.new.sums in
    subst (λ (v : ColumnOf). (end : End) (value : Placement → ℤ) → IsNeededRow value v.layouts v.others v.needed (cells_at end c.args.row.now) → AreColumnSums value v all_rolls (worths_at end sums)) c.self.view_is
    (λ end value tabled i h.
    let mover = begun-low moves i h in
    c.sum_rolls.ensures.sums end value (subst (λ (row : List Bests). IsNeededRow value moves.steps moves.layers moves.needed.items (cells_at end row)) (sym c.cells.ensures.cells) tabled) i mover
    ∙ ap (best_sum all_rolls value) (begun-is moves c.self.invariant i mover))
