use Rattle.std.proofs.Common.{◌∙◌, All, ℕ, ap, sym, subst}
use Rattle.move_rules.specs.Ends.{places}
use Rattle.column_sums.specs.Columns.{steps_from}
use Rattle.column_sums.specs.Leaps.{layout_at, AreLeaps, AreNext}
use Rattle.column_sums.specs.Cells.{IsShort, nth_cell}
use Rattle.column_sums.proofs.CellLemmas.{leaps-short, reach-is}
use Rattle.column_sums.proofs.cells.reach_of.Goals as goal

pub nth_cell-requires-clause-short : goal.nth_cell-requires-clause-short
nth_cell-requires-clause-short c =
    let got = c.leaps-leaps.ensures in
    subst (λ (n : ℕ). All (IsShort n) c.leaps-leaps.result.now) (sym c.next-next.ensures.points) (leaps-short c.args.steps.now c.leaps-leaps.result.now _ got.layouts got.leaps)

pub nth_cell-requires-2-clause-short : goal.nth_cell-requires-2-clause-short
nth_cell-requires-2-clause-short c =
    let got = c.leaps-leaps.ensures in
    subst (λ (n : ℕ). All (IsShort n) c.leaps-leaps.result.now) (sym c.next-next.ensures.points) (leaps-short c.args.steps.now c.leaps-leaps.result.now _ got.layouts got.leaps)

pub nth_cell-requires-3-clause-short : goal.nth_cell-requires-3-clause-short
nth_cell-requires-3-clause-short c =
    let got = c.leaps-leaps.ensures in
    subst (λ (n : ℕ). All (IsShort n) c.leaps-leaps.result.now) (sym c.next-next.ensures.points) (leaps-short c.args.steps.now c.leaps-leaps.result.now _ got.layouts got.leaps)

pub returns-clause-reach : goal.returns-clause-reach
returns-clause-reach c =
    let layouts = c.args.steps.now in
    let others = c.args.layers.now in
    let leaps = c.leaps-leaps.result.now in
    let next = c.next-next.result.now in
    let got = c.leaps-leaps.ensures in
    let count = c.count-count.ensures.count in
    let nexts = subst (λ (l : ℕ). AreNext others l next) c.from.ensures c.next-next.ensures.next in
    let are = subst (λ (r : ℕ). AreLeaps layouts leaps (steps_from (layout_at layouts r) c.args.die places)) c.from-2.ensures got.leaps in
    reach-is layouts others c.args.die c.args.cell c.nth_cell.result c.nth_cell-2.result c.nth_cell-3.result next leaps got.layouts c.requires.cell nexts got.few are
    (c.nth_cell.ensures ∙ ap (λ (n : ℕ). nth_cell n next leaps 0) count)
    (c.nth_cell-2.ensures ∙ ap (λ (n : ℕ). nth_cell n next leaps 1) count)
    (c.nth_cell-3.ensures ∙ ap (λ (n : ℕ). nth_cell n next leaps 2) count)
