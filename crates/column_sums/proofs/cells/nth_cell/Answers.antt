use Rattle.std.proofs.Common.{◌∙◌}
use Rattle.column_sums.specs.declared.leaps.Leap.{Leap}
use Rattle.column_sums.proofs.CellLemmas.{nth-is, nth-none}
use Rattle.column_sums.proofs.cells.nth_cell.Goals as goal

pub returns-then-i-leaps : goal.returns-then-i-leaps
returns-then-i-leaps c =
    let none : Leap = record { lands = 0; to = 0 } in
    c.leap_cell.ensures ∙ nth-is c.args.layers c.args.next.now c.args.leaps.now c.args.i none c.if-i-leaps.true

pub returns-else-i-leaps : goal.returns-else-i-leaps
returns-else-i-leaps c = nth-none c.args.layers c.args.next.now c.args.leaps.now c.args.i c.if-i-leaps.false
