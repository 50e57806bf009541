-- Tables that are filled cell by cell.
use Rattle.std.proofs.Common.{◌≡◌, ◌≢◌, ◌≤◌, ◌<◌, ◌∙◌, inl, inr, ℕ, ℤ, get_or, set, length-set, get_or-set_same, get_or-set_other, List, ◌∷◌, length, replicate, Option, Some, None, ap, subst, sym, arith}
use Rattle.std.proofs.lemmas.Bool.{cases_eq}
use Rattle.position_rank.specs.Placement.{Placement}
use Rattle.column_sums.specs.Cascade.{best_over}
use Rattle.std.proofs.lemmas.List.{get_or-replicate, length-replicate}
use Rattle.column_sums.specs.Cells.{no_cell, cell_of, IsCell, IsCellOrNone, cell_placement, best_from, IsReach}
use Rattle.column_sums.specs.Tables.{IsRightAt, IsRightAfter, IsReachWithin, IsRow, IsTableOfCells, best_after}
use Rattle.column_sums.specs.declared.cells.Reach.{Reach}
use Rattle.column_sums.proofs.CellLemmas.{best-cell}

pub some-cell : (many layers cell : ℕ) → many ≤ 3276 → IsCell many layers cell → cell ≢ no_cell
some-cell many layers cell few is same = absurd (omega (arith, is.rank, few, same))

pub cell-low : (many layers cell : ℕ) → layers ≤ 8 → IsCell many layers cell → cell < 32768
cell-low many layers cell few is = omega (arith, is.layer, few)

pub cell_or_none-low : (many layers cell : ℕ) → layers ≤ 8 → IsCellOrNone many layers cell → cell < 32768
cell_or_none-low many layers cell few (inl none) = omega (arith, none)
cell_or_none-low many layers cell few (inr is) = cell-low many layers cell few is

pub reach-within : (layouts others : List (List ℕ)) (die : ℕ) (reach : Reach) → length layouts ≤ 3276 → length others ≤ 8 → IsReach layouts others die reach → IsReachWithin reach
reach-within layouts others die reach few layers is = record {
  cell = cell-low (length layouts) (length others) reach.cell layers is.cell;
  some = some-cell (length layouts) (length others) reach.cell few is.cell;
  first = cell_or_none-low (length layouts) (length others) reach.first layers is.first;
  second = cell_or_none-low (length layouts) (length others) reach.second layers is.second;
  third = cell_or_none-low (length layouts) (length others) reach.third layers is.third;
}

module _ (value : Placement → ℤ) (layouts others : List (List ℕ)) (few : length layouts ≤ 3276) where
  -- with one die more, the best of a cell is the best of those that it leads to
  pub after-right : (dice : List ℕ) (die : ℕ) (table : List (Option ℤ)) (reach : Reach) → IsReach layouts others die reach → IsRightAfter value dice layouts others table reach
      → best_after table reach ≡ best_over value (die ∷ dice) (cell_placement layouts others reach.cell)
  after-right dice die table reach is right = rw (right.first, right.second, right.third) (sym (is.best value dice))

  pub after-best : (dice : List ℕ) (die : ℕ) (table : List (Option ℤ)) (reach : Reach) → IsReach layouts others die reach → IsRightAfter value dice layouts others table reach
      → best_after table reach ≡ best_from value (die ∷ dice) layouts others reach.cell
  after-best dice die table reach is right = after-right dice die table reach is right ∙ sym (best-cell layouts others few value (die ∷ dice) reach.cell is.cell)

-- a right value is put, and the others stay
pub right-set : (value : Placement → ℤ) (dice : List ℕ) (layouts others : List (List ℕ)) (table : List (Option ℤ)) (at cell : ℕ) (x : Option ℤ) → at < length table
    → x ≡ best_from value dice layouts others at → IsRightAt value dice layouts others table cell → IsRightAt value dice layouts others (set table at x) cell
right-set value dice layouts others table at cell x h is right = elim (cases_eq cell at) [
  | inl same ↦ rw same (get_or-set_same table at x None h ∙ is)
  | inr apart ↦ get_or-set_other table at cell x None apart ∙ right
]

pub right-put : (value : Placement → ℤ) (dice : List ℕ) (layouts others : List (List ℕ)) (table : List (Option ℤ)) (at : ℕ) (x : Option ℤ) → at < length table
    → x ≡ best_from value dice layouts others at → IsRightAt value dice layouts others (set table at x) at
right-put value dice layouts others table at x h is = get_or-set_same table at x None h ∙ is

pub row-set : (cells : List (Option ℤ)) (layer rank : ℕ) (x : ℤ) → layer < 8 → rank < 4095 → IsRow cells → IsRow (set cells (cell_of layer rank) (Some x))
row-set cells layer rank x h k row =
    let at : cell_of layer rank ≢ no_cell = λ e. absurd (omega (arith, e, k)) in
    let here : cell_of layer rank < length cells = omega (arith, h, k, row.many) in
    record {
      many = length-set cells (cell_of layer rank) (Some x) ∙ row.many;
      missing = get_or-set_other cells (cell_of layer rank) no_cell (Some x) None (λ e. at (sym e)) ∙ row.missing;
      filled = λ cell low some. elim (cases_eq cell (cell_of layer rank)) [
        | inl same ↦ (x, ap (λ (i : ℕ). get_or (set cells (cell_of layer rank) (Some x)) i None) same ∙ get_or-set_same cells (cell_of layer rank) (Some x) None here)
        | inr apart ↦ (let was = row.filled cell low some in (was.0, get_or-set_other cells (cell_of layer rank) cell (Some x) None apart ∙ was.1))
      ];
    }

pub row-start : (x : ℤ) → IsRow (set (replicate 32768 (Some x)) no_cell None)
row-start x = record {
  many = length-set (replicate 32768 (Some x)) no_cell None ∙ length-replicate 32768 (Some x);
  missing = get_or-set_same (replicate 32768 (Some x)) no_cell None None (omega (arith, length-replicate 32768 (Some x)));
  filled = λ cell low some. (x, get_or-set_other (replicate 32768 (Some x)) no_cell cell None None some ∙ get_or-replicate 32768 cell (Some x) None low);
}

pub table-start : IsTableOfCells (replicate {A = Option ℤ} 32768 None)
table-start =
    let none : Option ℤ = None in
    record { many = length-replicate 32768 none; missing = get_or-replicate 32768 no_cell none none (omega arith) }

pub row-made : (cells : List (Option ℤ)) (x : ℤ) (o m : Option ℤ) (at : ℕ) → cells ≡ replicate 32768 o → o ≡ Some x → at ≡ no_cell → m ≡ None → IsRow (set cells at m)
row-made cells x o m at cells-are is here missing =
    subst (λ (cs : List (Option ℤ)). IsRow (set cs at m)) (sym (cells-are ∙ ap (λ (y : Option ℤ). replicate 32768 y) is))
    (subst (λ (i : ℕ). IsRow (set (replicate 32768 (Some x)) i m)) (sym here) (subst (λ (y : Option ℤ). IsRow (set (replicate 32768 (Some x)) no_cell y)) (sym missing) (row-start x)))
