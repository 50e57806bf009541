-- Rows of all kinds in which one cell more was found.
use Rattle.std.proofs.Common.{◌≡◌, ◌<◌, ◌≤◌, ◌≢◌, ◌+◌, ◌∙◌, Bool, ℕ, ℤ, List, [], length, set, Option, Some, None, get_or-set_same, get_or-set_other, below_more, ap, sym, subst, arith}
use Rattle.std.proofs.lemmas.List.{set-get_or}
use Rattle.position_rank.specs.Placement.{Placement, IsPosition}
use Rattle.directed_fixed.specs.declared.bounds.End.{End}
use Rattle.cube_actions.specs.Stakes.{Terms, kind_at}
use Rattle.turn_rule.specs.Looks.{Notes, Seen}
use Rattle.turn_rule.specs.Found.{LeavesState, IsFoundOf, of_play}
use Rattle.column_sums.specs.Leaps.{layout_at}
use Rattle.column_sums.specs.Cells.{cell_of}
use Rattle.column_sums.specs.Needed.{IsNeeded}
use Rattle.column_turns.specs.Moments.{IsLater}
use Rattle.column_turns.specs.Rows.{AreFoundTo, AreFoundRows, AreFoundRowsTo, ArePut, AreRows, IsWorthPut, IsSameBefore, row_at, row_of}
use Rattle.column_sums.specs.Worths.{cells_at}
use Rattle.column_sums.specs.declared.best.Bests.{Bests}
use Rattle.column_turns.proofs.Laters.{found-then}
use Rattle.column_turns.proofs.RowCells.{same-set, cell-more, cell-none, layer-more}

module _ (end : End) (old : Seen) (stakes : Terms) where
  -- no play leaves these checkers, and the rows stay
  pub put-none : (noted : Notes) (left : Placement) (layer rank : ℕ) (rows : List (List Bests)) → AreRows (length stakes.kinds) rows → layer < 8 → rank < 4095
      → ((k : ℕ) → LeavesState old.source (kind_at stakes k).next left → ⊥) → ArePut end old.source noted stakes left layer rank rows rows (length stakes.kinds)
  put-none noted left layer rank rows are eight few none k below =
      let row = row_at end rows k in
      let here : k < length rows = omega (arith, below, are.many) in
      let inside : cell_of layer rank < 32768 = omega (arith, eight, few) in
      let some : cell_of layer rank ≢ 4095 = omega (arith, few) in
      let is = ((are.each k [] here).each end).filled (cell_of layer rank) inside some in
      (is.0, sym (set-get_or row (cell_of layer rank) None) ∙ ap (set row (cell_of layer rank)) is.1, λ leaves. absurd (none k leaves))

  module _ (left : Placement) (layer rank : ℕ) (first rows : List (List Bests)) where
    -- what was put stays found
    pub put-later : (mid new : Seen) (count : ℕ) → IsLater old mid → IsLater mid new → ArePut end old.source mid.notes stakes left layer rank first rows count → ArePut end old.source new.notes stakes left layer rank first rows count
    put-later mid new count one two before k below =
        let was = before k below in
        (was.0, was.1, λ leaves. found-then end (of_play (kind_at stakes k) left) old mid new was.0 one two (was.2 leaves))

    -- a worth was put in the row of one kind more
    pub put-next : (noted : Notes) (number : ℕ) (row : List Bests) (x : ℤ) → number < length rows → ArePut end old.source noted stakes left layer rank first rows number → ((k : ℕ) → number ≤ k → row_of rows k ≡ row_of first k)
        → cells_at end row ≡ set (row_at end rows number) (cell_of layer rank) (Some x)
        → (LeavesState old.source (kind_at stakes number).next left → IsFoundOf end (of_play (kind_at stakes number) left) old.source noted x)
        → ArePut end old.source noted stakes left layer rank first (set rows number row) (number + 1)
    put-next noted number row x here before rest row-is found =
        below_more (λ (k : ℕ). IsWorthPut end old.source noted (kind_at stakes k) left layer rank (row_at end first k) (row_at end (set rows number row) k)) number
        (λ k below.
        let apart : k ≢ number = omega (arith, below) in
        let was = before k below in
        (was.0, ap (cells_at end) (get_or-set_other rows number k row [] apart) ∙ was.1, was.2))
        (x, ap (cells_at end) (get_or-set_same rows number row [] here) ∙ (row-is ∙ ap (λ (r : List Bests). set (cells_at end r) (cell_of layer rank) (Some x)) (rest number (omega arith))), found)

    pub put-rest : (number : ℕ) (row : List Bests) → ((k : ℕ) → number ≤ k → row_of rows k ≡ row_of first k) → (k : ℕ) → number + 1 ≤ k → row_of (set rows number row) k ≡ row_of first k
    put-rest number row rest k from =
        let apart : k ≢ number = omega (arith, from) in
        get_or-set_other rows number k row [] apart ∙ rest k (omega (arith, from))

  module _ (layouts : List (List ℕ)) (other : List ℕ) (needed : List Bool) where
    pub rows-none : (noted : Notes) (first rows : List (List Bests)) (layer rank : ℕ) → (IsNeeded needed (cell_of layer rank) → IsPosition (record { mover = layout_at layouts rank; other = other }) → ⊥)
        → AreFoundRowsTo end old.source noted stakes layouts other needed first rows layer rank → AreFoundRowsTo end old.source noted stakes layouts other needed first rows layer (rank + 1)
    rows-none noted first rows layer rank none before = record {
      same = before.same;
      found = λ k below. cell-none end old (kind_at stakes k) layouts other needed noted (row_at end rows k) layer rank none (before.found k below);
    }

    pub rows-more : (mid new : Seen) (first rows after : List (List Bests)) (layer rank : ℕ) (left : Placement) → IsLater old mid → IsLater mid new → AreRows (length stakes.kinds) after → layer < 8 → rank < 4096
        → left ≡ record { mover = layout_at layouts rank; other = other } → ArePut end old.source new.notes stakes left layer rank rows after (length stakes.kinds)
        → AreFoundRowsTo end old.source mid.notes stakes layouts other needed first rows layer rank → AreFoundRowsTo end old.source new.notes stakes layouts other needed first after layer (rank + 1)
    rows-more mid new first rows after layer rank left one two are eight few left_is puts before = record {
      same = λ k below.
          let put = puts k below in
          subst (IsSameBefore layer (row_at end first k)) (sym put.1) (same-set (row_at end first k) (row_at end rows k) layer rank (Some put.0) (before.same k below));
      found = λ k below.
          let put = puts k below in
          let here : k < length after = omega (arith, below, are.many) in
          let cells = ap (λ (r : List (Option ℤ)). length r) (sym put.1) ∙ ((are.each k [] here).each end).many in
          subst (λ (row : List (Option ℤ)). AreFoundTo end old.source new.notes (kind_at stakes k) layouts other needed row layer (rank + 1)) (sym put.1)
          (cell-more end old (kind_at stakes k) layouts other needed mid new (row_at end rows k) layer rank put.0 left one two cells eight few left_is put.2 (before.found k below));
    }

    -- one layer more was found
    pub layers-more : (others : List (List ℕ)) (mid new : Seen) (rows after : List (List Bests)) (layer : ℕ) → IsLater old mid → IsLater mid new → length layouts ≤ 3276 → other ≡ layout_at others layer
        → AreFoundRows end old.source mid.notes stakes layouts others needed rows layer → AreFoundRowsTo end old.source new.notes stakes layouts other needed rows after layer (length layouts)
        → AreFoundRows end old.source new.notes stakes layouts others needed after (layer + 1)
    layers-more others mid new rows after layer one two few other_is before this k below =
        layer-more end old (kind_at stakes k) layouts other needed others mid new (row_at end rows k) (row_at end after k) layer one two (this.same k below) few other_is (before k below) (this.found k below)
