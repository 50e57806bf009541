use Rattle.std.proofs.Common.{◌≡◌, ◌∙◌, ℕ, All, List, length, drop, take, subst, sym, ap}
use Rattle.column_sums.specs.Listings.{AreCells, LeadsInto, LeadsToCells}
use Rattle.column_sums.specs.declared.cells.Reach.{Reach}
use Rattle.column_sums.specs.MoveLists.{AreReaches}
use Rattle.column_sums.proofs.Listed.{kept-again}
use Rattle.column_sums.proofs.Reached.{leads-cells, take-kept, rest-all, rest-of, into-longer, die-list}
use Rattle.column_sums.proofs.moves.finish.Goals as goal

pub add_reaches-requires-2-clause-cells : goal.add_reaches-requires-2-clause-cells
add_reaches-requires-2-clause-cells c =
    let many = length c.args.steps.now in
    let layers = length c.args.layers.now in
    subst (AreCells many layers) (sym c.cells-2.ensures.cells) (c.add_after.ensures.cells many layers c.requires.cells
    (rest-all (LeadsToCells many layers) c.len-begun.result c.deref.result.now (subst (All (LeadsToCells many layers)) (sym c.deref.ensures.value) (leads-cells c.args.steps.now c.args.layers.now c.args.die _ _ c.add_reaches.ensures.done))))

pub add_reaches-requires-3-clause-cells : goal.add_reaches-requires-3-clause-cells
add_reaches-requires-3-clause-cells c =
    let many = length c.args.steps.now in
    let layers = length c.args.layers.now in
    let before : AreCells many layers c.add_after.new.self = c.add_after.ensures.cells many layers c.requires.cells
    (rest-all (LeadsToCells many layers) c.len-begun.result c.deref.result.now (subst (All (LeadsToCells many layers)) (sym c.deref.ensures.value) (leads-cells c.args.steps.now c.args.layers.now c.args.die _ _ c.add_reaches.ensures.done))) in
    subst (AreCells many layers) (sym c.cells-3.ensures.cells) (c.add_after-2.ensures.cells many layers before
    (rest-all (LeadsToCells many layers) (length c.cells-near.result.now) c.deref-2.result.now (subst (All (LeadsToCells many layers)) (sym c.deref-2.ensures.value) (leads-cells c.args.steps.now c.args.layers.now c.args.die _ _ c.add_reaches-2.ensures.done))))

pub returns-clause-same : goal.returns-clause-same
returns-clause-same c =
    let near = c.args.listing.now in
    let kept = kept-again near c.add_after.new.self c.add_after-2.new.self c.add_after.ensures.kept c.add_after-2.ensures.kept in
    c.rewind.ensures ∙ (ap (λ (xs : List ℕ). take (length xs) c.add_after-2.new.self) c.cells-near.ensures.cells ∙ take-kept near c.add_after-2.new.self kept)

pub returns-clause-list : goal.returns-clause-list
returns-clause-list c =
    let near = c.args.listing.now in
    let one = c.add_after.new.self in
    let two = c.add_after-2.new.self in
    let r0 = c.args.list.now.reaches.items in
    let r1 = c.add_reaches.new.reaches.items in
    let r2 = c.add_reaches-2.new.reaches.items in
    let r3 = c.add_reaches-3.new.reaches.items in
    let layouts = c.args.steps.now in
    let others = c.args.layers.now in
    let n1 : length r1 ≡ length near = c.add_reaches.ensures.all ∙ ap (λ (xs : List ℕ). length xs) c.cells.ensures.cells in
    let n2 : length r2 ≡ length one = c.add_reaches-2.ensures.all ∙ ap (λ (xs : List ℕ). length xs) c.cells-2.ensures.cells in
    let n3 : length r3 ≡ length two = c.add_reaches-3.ensures.all ∙ ap (λ (xs : List ℕ). length xs) c.cells-3.ensures.cells in
    let into1 : All (LeadsInto one) r1 = into-longer near one c.len-begun.result r0 r1 c.add_after.ensures.kept (c.len-begun.ensures ∙ c.args.list.now.reaches.ok.0) c.add_reaches.ensures.kept c.requires.listed
    (subst (λ (xs : List Reach). All (LeadsInto one) (drop c.len-begun.result xs)) c.deref.ensures.value (subst (All (LeadsInto one)) (rest-of c.len-begun.result c.deref.result.now) c.add_after.ensures.listed)) in
    let into2 : All (LeadsInto two) r2 = into-longer one two (length c.cells-near.result.now) r1 r2 c.add_after-2.ensures.kept (ap (λ (xs : List ℕ). length xs) c.cells-near.ensures.cells ∙ sym n1) c.add_reaches-2.ensures.kept into1
    (subst (λ (xs : List Reach). All (LeadsInto two) (drop (length c.cells-near.result.now) xs)) c.deref-2.ensures.value (subst (All (LeadsInto two)) (rest-of (length c.cells-near.result.now) c.deref-2.result.now) c.add_after-2.ensures.listed)) in
    let are : AreReaches layouts others c.args.die two r3 = subst (λ (xs : List ℕ). AreReaches layouts others c.args.die xs r3) c.cells-3.ensures.cells c.add_reaches-3.ensures.done in
    die-list layouts others near one two c.args.die r0 r1 r2 (record { reaches = c.add_reaches-3.new.reaches; second = length c.cells-second.result.now })
    c.add_after.ensures.kept c.add_after-2.ensures.kept c.requires.begun.few c.requires.listed n1 c.add_reaches.ensures.kept into1 n2 c.add_reaches-2.ensures.kept into2 are n3 c.add_reaches-3.ensures.kept
    c.cells-3.ensures.few (ap (λ (xs : List ℕ). length xs) c.cells-second.ensures.cells)
