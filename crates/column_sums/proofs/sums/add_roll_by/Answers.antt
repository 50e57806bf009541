use Rattle.std.proofs.Common.{◌≡◌, ◌≢◌, ◌∙◌, ◌-◌, ℕ, ℤ, List, get_or, ap, sym, subst, arith}
use Rattle.position_rank.specs.Placement.{Placement}
use Rattle.column_sums.specs.Cascade.{best_double, best_pair}
use Rattle.column_sums.specs.Sums.{AreRightEach, AreTwoAndThree, DoubleTables, PairTables, RollTables, mover_placement, ways}
use Rattle.column_sums.specs.Worths.{cells_at}
use Rattle.column_sums.specs.declared.best.Bests.{Bests}
use Rattle.column_sums.proofs.SumSteps.{added-as, one-way, two-ways, double-roll, pair-roll}
use Rattle.column_sums.proofs.sums.add_roll_by.Goals as goal

pub returns-then-high-low : goal.returns-then-high-low
returns-then-high-low g c = λ end i h.
    let moves = c.args.moves.now in
    let row = c.args.row.now in
    let ones = c.args.ones.now in
    let roll = c.args.roll in
    let die = c.high-high.result in
    let high = c.high-high.ensures.high in
    let valid = c.high-high.ensures.valid in
    let same : roll.high ≡ roll.low = sym high ∙ (c.if-high-low.true ∙ c.low-low.ensures.low) in
    let one = c.cells-after_high.result.now in
    let two = c.cells.result.now in
    let three = c.cells-then-high-low.result.now in
    let tables = λ (value : Placement → ℤ) (are : RollTables end value moves row ones).
    (let item = c.index-ones-from.result in
    let here : get_or ones (c.from.result - 1) item ≡ one = sym c.cells-after_high.ensures.cells in
    let each : AreRightEach value moves die (cells_at end (get_or ones (die - 1) item)) = are.each die item (omega (arith, high, valid.from, valid.in_order)) (omega (arith, high, valid.to)) in
    let once : AreRightEach value moves die (cells_at end one) = subst (λ (t : List Bests). AreRightEach value moves die (cells_at end t)) (ap (λ (n : ℕ). get_or ones (n - 1) item) (sym c.from.ensures) ∙ here) each in
    let more = c.fill_two_and_three.ensures end value once in
    let more' : AreTwoAndThree value moves die (cells_at end two) (cells_at end three) = subst (λ (t : List Bests). AreTwoAndThree value moves die (cells_at end t) (cells_at end three)) (sym c.cells.ensures.cells)
    (subst (λ (t : List Bests). AreTwoAndThree value moves die (cells_at end c.fill_two_and_three.new.two) (cells_at end t)) (sym c.cells-then-high-low.ensures.cells) more) in
    let all : DoubleTables value moves die (cells_at end row) (cells_at end one) (cells_at end two) (cells_at end three) = record { none = are.none; once = once; more = more' } in
    all) in
    added-as (ways roll) 1 _ _ _ _ (one-way roll same)
    (λ b found value are. found value (tables value are) ∙ (ap (λ (d : ℕ). best_double value d (mover_placement moves i)) high ∙ double-roll value (mover_placement moves i) roll same))
    (c.add_double.ensures end i h)

pub returns-else-high-low : goal.returns-else-high-low
returns-else-high-low g c = λ end i h.
    let moves = c.args.moves.now in
    let row = c.args.row.now in
    let ones = c.args.ones.now in
    let roll = c.args.roll in
    let high = c.high-high.ensures.high in
    let low = c.low-low.ensures.low in
    let valid = c.high-high.ensures.valid in
    let apart : roll.high ≢ roll.low = λ same. c.if-high-low.false (high ∙ (same ∙ sym low)) in
    let after_high = c.cells-after_high.result.now in
    let after_low = c.cells-after_low.result.now in
    let tables = λ (value : Placement → ℤ) (are : RollTables end value moves row ones).
    (let one = c.index-ones-from.result in
    let other = c.index-ones-from-else-high-low.result in
    let higher : AreRightEach value moves c.high-high.result (cells_at end after_high) = subst (λ (t : List Bests). AreRightEach value moves c.high-high.result (cells_at end t))
    (ap (λ (n : ℕ). get_or ones (n - 1) one) (sym c.from.ensures) ∙ sym c.cells-after_high.ensures.cells)
    (are.each c.high-high.result one (omega (arith, high, valid.from, valid.in_order)) (omega (arith, high, valid.to))) in
    let lower : AreRightEach value moves c.low-low.result (cells_at end after_low) = subst (λ (t : List Bests). AreRightEach value moves c.low-low.result (cells_at end t))
    (ap (λ (n : ℕ). get_or ones (n - 1) other) (sym c.from-else-high-low.ensures) ∙ sym c.cells-after_low.ensures.cells)
    (are.each c.low-low.result other (omega (arith, low, valid.from)) (omega (arith, low, valid.in_order, valid.to))) in
    let all : PairTables value moves c.high-high.result c.low-low.result (cells_at end row) (cells_at end after_high) (cells_at end after_low) = record { none = are.none; higher = higher; lower = lower } in
    all) in
    added-as (ways roll) 2 _ _ _ _ (two-ways roll apart)
    (λ b found value are. found value (tables value are)
    ∙ (ap (λ (d : ℕ). best_pair value d c.low-low.result (mover_placement moves i)) high ∙ (ap (λ (d : ℕ). best_pair value roll.high d (mover_placement moves i)) low ∙ pair-roll value (mover_placement moves i) roll apart)))
    (c.add_pair.ensures end i h)
