use Rattle.std.proofs.Common.{◌≡◌, ◌<◌, ◌+◌, ◌∙◌, ℕ, All, List, get_or, length, subst, sym, ap, arith}
use Rattle.column_sums.specs.declared.moves.DieList.{DieList}
use Rattle.column_sums.specs.Listings.{LeadsToCells}
use Rattle.column_sums.specs.MoveLists.{AreReaches, AreBegun, AreDieLists, AreMovers, IsDieList}
use Rattle.column_sums.specs.Needed.{AreNeeded}
use Rattle.column_sums.proofs.Listed.{cells-more, cell-rank}
use Rattle.column_sums.proofs.Reached.{by-die, leads-cells, leads-room, reaches-kept}
use Rattle.column_sums.proofs.TableLemmas.{cell-low, reach-within}
use Rattle.column_sums.proofs.moves.Moves.begin.Goals as goal

-- each list that was begun leads to cells
all-lead : (layouts others : List (List ℕ)) (cells : List ℕ) (movers : ℕ) (lists : List DieList) → AreBegun layouts others cells movers lists
    → (i : ℕ) (none : DieList) → i < 6 → All (LeadsToCells (length layouts) (length others)) (get_or lists i none).reaches.items
all-lead layouts others cells movers lists begun i none h =
    leads-cells layouts others (i + 1) cells (get_or lists i none).reaches.items (by-die (λ die list. AreReaches layouts others die cells list.reaches.items) lists begun.reaches i none h)

pub begin_lists-requires-clause-cells : goal.begin_lists-requires-clause-cells
begin_lists-requires-clause-cells c =
    let many = length c.args.self.now.steps in
    cells-more many (length c.set.new.self) c.list_movers.new.listing c.set.ensures.some (c.list_movers.ensures.cells many (omega (arith, c.requires.ready.few)) c.requires.movers)

pub list_one_die-requires-clause-cells : goal.list_one_die-requires-clause-cells
list_one_die-requires-clause-cells c = λ i none h k d below.
    leads-room (length c.args.self.now.steps) (length c.set.new.self) _ c.requires.ready.few c.set.ensures.few
    (all-lead c.args.self.now.steps c.set.new.self c.list_movers.new.listing _ c.begin_lists.new.lists c.begin_lists.ensures.begun i none h k d below)

pub finish_lists-requires-clause-cells : goal.finish_lists-requires-clause-cells
finish_lists-requires-clause-cells c =
    let many = length c.args.self.now.steps in
    let layers = length c.set.new.self in
    c.list_one_die.ensures.cells many layers
    (cells-more many layers c.list_movers.new.listing c.set.ensures.some (c.list_movers.ensures.cells many (omega (arith, c.requires.ready.few)) c.requires.movers))
    (all-lead c.args.self.now.steps c.set.new.self c.list_movers.new.listing _ c.begin_lists.new.lists c.begin_lists.ensures.begun)

pub finish_lists-requires-clause-begun : goal.finish_lists-requires-clause-begun
finish_lists-requires-clause-begun c = record {
  reaches = λ die none a b. reaches-kept c.args.self.now.steps c.set.new.self die c.list_movers.new.listing c.list_one_die.new.listing _ c.list_one_die.ensures.kept (c.begin_lists.ensures.begun.reaches die none a b);
  many = λ die none a b. c.begin_lists.ensures.begun.many die none a b ∙ ap (λ (xs : List ℕ). length xs) (sym c.cells.ensures.cells);
}

pub mark_needed-requires-clause-cells : goal.mark_needed-requires-clause-cells
mark_needed-requires-clause-cells c =
    let many = length c.args.self.now.steps in
    let layers = length c.set.new.self in
    let cells = c.list_one_die.ensures.cells many layers
    (cells-more many layers c.list_movers.new.listing c.set.ensures.some (c.list_movers.ensures.cells many (omega (arith, c.requires.ready.few)) c.requires.movers))
    (all-lead c.args.self.now.steps c.set.new.self c.list_movers.new.listing _ c.begin_lists.new.lists c.begin_lists.ensures.begun) in
    rw (c.cells-2.ensures.cells, c.finish_lists.ensures.same) (λ i h. cell-low many layers _ c.set.ensures.few (cells i h))

pub mark_needed-requires-clause-within : goal.mark_needed-requires-clause-within
mark_needed-requires-clause-within c = λ i none h k d below.
    let lists = by-die (λ die list. IsDieList c.args.self.now.steps c.set.new.self c.list_one_die.new.listing (length c.cells.result.now) die list) c.finish_lists.new.lists c.finish_lists.ensures.lists i none h in
    reach-within c.args.self.now.steps c.set.new.self (i + 1) _ c.requires.ready.few c.set.ensures.few (lists.each k d below)

pub returns-clause-ready : goal.returns-clause-ready
returns-clause-ready c =
    let many = length c.args.self.now.steps in
    let start = c.list_movers.new.listing in
    let near = c.list_one_die.new.listing in
    let kept = c.list_one_die.ensures.kept in
    let same : c.finish_lists.new.listing ≡ near = c.finish_lists.ensures.same in
    let count : length c.cells.result.now ≡ length start = ap (λ (xs : List ℕ). length xs) c.cells.ensures.cells in
    let cells = c.list_movers.ensures.cells many (omega (arith, c.requires.ready.few)) c.requires.movers in
    let begun : AreMovers many near (length c.cells.result.now) = λ i h. (
    let here : i < length start = omega (arith, h, count) in
    subst (λ (r : ℕ). r < many) (sym (kept.same i here)) (cell-rank many 1 (get_or start i 0) (cells i here))) in
    record {
      few = c.requires.ready.few;
      eight = c.set.ensures.few;
      rooms = c.finish_lists.ensures.rooms;
      within = omega (arith, count, kept.longer, ap (λ (xs : List ℕ). length xs) same);
      begun = subst (λ (xs : List ℕ). AreMovers many xs (length c.cells.result.now)) (sym same) begun;
      each = subst (λ (xs : List ℕ). AreDieLists c.args.self.now.steps c.set.new.self xs (length c.cells.result.now) c.finish_lists.new.lists) (sym same) c.finish_lists.ensures.lists;
      needed = subst (λ (xs : List ℕ). AreNeeded xs c.finish_lists.new.lists c.mark_needed.new.needed.items) c.cells-2.ensures.cells c.mark_needed.ensures;
      two_cells = c.have_third-self.ensures;
    }

pub returns-clause-movers : goal.returns-clause-movers
returns-clause-movers c = λ i h.
    let start = c.list_movers.new.listing in
    let kept = c.list_one_die.ensures.kept in
    let same = c.finish_lists.ensures.same in
    let l = c.list_movers.ensures.listed i h in
    let count : length c.cells.result.now ≡ length start = ap (λ (xs : List ℕ). length xs) c.cells.ensures.cells in
    (l.0, omega (arith, l.1, count), ap (λ (xs : List ℕ). get_or xs l.0 0) same ∙ (kept.same l.0 l.1 ∙ l.2))

pub returns-clause-only : goal.returns-clause-only
returns-clause-only c = λ i h.
    let start = c.list_movers.new.listing in
    let count : length c.cells.result.now ≡ length start = ap (λ (xs : List ℕ). length xs) c.cells.ensures.cells in
    let here : i < length start = omega (arith, h, count) in
    let is = c.list_movers.ensures.only i here in
    (is.0, is.1, is.2 ∙ sym (ap (λ (xs : List ℕ). get_or xs i 0) c.finish_lists.ensures.same ∙ c.list_one_die.ensures.kept.same i here))
