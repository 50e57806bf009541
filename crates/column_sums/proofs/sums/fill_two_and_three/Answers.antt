use Rattle.std.proofs.Common.{◌≡◌, ◌∙◌, ◌-◌, [], ◌∷◌, ℕ, None, List, get_or, length, ap, sym, subst, arith}
use Rattle.column_sums.specs.declared.moves.DieList.{DieList}
use Rattle.column_sums.specs.declared.best.Bests.{Bests}
use Rattle.column_sums.specs.Sums.{die_list, AreRightTo}
use Rattle.column_sums.specs.Worths.{cells_at}
use Rattle.column_sums.proofs.SumLemmas.{filled-to, same-list}
use Rattle.column_sums.proofs.sums.fill_two_and_three.Goals as goal

pub returns : goal.returns
returns c = λ end value right.
    let moves = c.args.moves.now in
    let die = c.args.die in
    let item = c.index-moves-from.result in
    let ready = c.requires.ready in
    let low = c.requires.low in
    let high = c.requires.high in
    let here : (none : DieList) → get_or moves.lists (c.from.result - 1) item ≡ die_list moves die none =
    λ none. ap (λ (n : ℕ). get_or moves.lists (n - 1) item) c.from.ensures ∙ same-list moves ready die item none low high in
    let near : length c.cells-near.result.now ≡ length moves.listing = ap (λ (xs : List ℕ). length xs) c.cells-near.ensures.cells in
    let twice = λ (none : DieList). (
    let is = ready.each die none low high in
    filled-to value moves ready die none (die ∷ []) (die_list moves die none).second (length (die_list moves die none).reaches.items) _ c.deref.result.now (cells_at end c.args.one.now) (cells_at end c.fill.new.self) low high
    (c.deref.ensures.value ∙ ap (λ (l : DieList). l.reaches.items) (here none)) (ap (λ (l : DieList). l.second) (here none)) is.second (c.requires.one.each end).missing (right none) is.three_dice
    (c.fill.ensures.filled end value (die ∷ []) moves.steps moves.layers die ready.few)) in
    record {
      twice = twice;
      thrice = λ none. (
          let is = ready.each die none low high in
          filled-to value moves ready die none (die ∷ die ∷ []) (length moves.listing) (die_list moves die none).second (length c.cells-near.result.now) c.deref-2.result.now (cells_at end c.cells.result.now) (cells_at end c.fill-2.new.self) low high
          (c.deref-2.ensures.value ∙ ap (λ (l : DieList). l.reaches.items) (here none)) near (omega (arith, is.longer, is.second))
          (subst (λ (t : List Bests). get_or (cells_at end t) 4095 None ≡ None) (sym c.cells.ensures.cells) (c.cells.ensures.table.each end).missing)
          (subst (λ (t : List Bests). AreRightTo value (die ∷ die ∷ []) moves (cells_at end t) (die_list moves die none).reaches.items (die_list moves die none).second) (sym c.cells.ensures.cells) (twice none)) is.two_dice
          (c.fill-2.ensures.filled end value (die ∷ die ∷ []) moves.steps moves.layers die ready.few));
    }
