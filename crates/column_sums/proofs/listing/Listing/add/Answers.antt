use Rattle.std.proofs.Common.{◌≡◌, ◌∙◌, inr, false, get_or, length, sym, arith, vec_capacity}
use Rattle.column_sums.proofs.Listed.{room-push, listing-push, at-last, longer-by, any_mark, only-more}
use Rattle.column_sums.proofs.listing.Listing.add.Goals as goal

pub push_reserved-requires : goal.push_reserved-requires
push_reserved-requires c =
    let cells = c.self.inside.cells.items in
    let marks = c.self.inside.marks.items in
    let listing = c.self.invariant in
    let free : get_or marks c.args.cell false ≡ false = any_mark marks c.from.result c.args.cell c.index.result.now c.from.ensures (sym c.index.ensures ∙ c.if-index.false) in
    omega (arith, room-push cells (vec_capacity c.self.inside.cells) marks listing c.args.cell c.requires free, listing.room)

pub invariant_of-self : goal.invariant_of-self
invariant_of-self c =
    let cells = c.self.inside.cells.items in
    let marks = c.self.inside.marks.items in
    let listing = c.self.invariant in
    let free : get_or marks c.args.cell false ≡ false = any_mark marks c.from.result c.args.cell c.index.result.now c.from.ensures (sym c.index.ensures ∙ c.if-index.false) in
    rw (c.push_reserved.ensures.items, c.push_reserved.ensures.capacity, c.from-2.ensures)
    (listing-push cells (vec_capacity c.self.inside.cells) marks listing c.args.cell c.requires free)

pub returns-clause-listed : goal.returns-clause-listed
returns-clause-listed c =
    let cells = c.self.inside.cells.items in
    rw c.push_reserved.ensures.items (inr (length cells, omega (arith, longer-by cells c.args.cell), at-last cells c.args.cell))

pub returns-clause-only : goal.returns-clause-only
returns-clause-only c = rw (c.push_reserved.ensures.items, ← c.self.view_is) (λ i h. only-more c.self.inside.cells.items c.args.cell i h)
