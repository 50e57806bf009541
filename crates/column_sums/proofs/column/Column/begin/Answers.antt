use Rattle.std.proofs.Common.{◌<◌, ◌∙◌, sym, arith}
use Rattle.std.proofs.lemmas.List.{get_or-take, length-take}
use Rattle.column_sums.proofs.column.Column.begin.Goals as goal

pub returns-clause-movers : goal.returns-clause-movers
returns-clause-movers c = λ i h.
    let new = c.begin.new.self in
    let is = c.begin.ensures.movers i h in
    (is.0, omega (arith, is.1, c.begin.ensures.ready.within, length-take new.movers new.listing), get_or-take new.movers new.listing is.0 0 is.1 ∙ is.2)

pub returns-clause-only : goal.returns-clause-only
returns-clause-only c = λ i h.
    let new = c.begin.new.self in
    let here : i < new.movers = omega (arith, h, c.begin.ensures.ready.within, length-take new.movers new.listing) in
    let is = c.begin.ensures.only i here in
    (is.0, is.1, is.2 ∙ sym (get_or-take new.movers new.listing i 0 here))
