-- The values that a row gives to placements.
use Rattle.std.proofs.Common.{◌≡◌, ◌≢◌, ◌≤◌, ◌<◌, ◌∙◌, refl, Bool, true, false, cond, ℤ, pos, Option, Some, None, ℕ, zero, suc, get_or, List, [], ◌∷◌, length, ap, sym, arith}
use Rattle.std.proofs.lemmas.Slice.Eq.{bytes_eq-Decides}
use Rattle.std.specs.Str.{bytes_eq}
use Rattle.turn_rule.specs.Layouts.{AreLayouts}
use Rattle.column_sums.specs.Cascade.{or_value, best_over}
use Rattle.column_sums.specs.Leaps.{layout_at}
use Rattle.column_sums.specs.Cells.{cell_of, no_cell}
use Rattle.column_sums.specs.Tables.{IsRow, IsNeededRow}
use Rattle.column_sums.specs.AfterHits.{AreDistinct}
use Rattle.column_sums.specs.Values.{index_in, cell_value}

distinct-rest : (x : List ℕ) (xs : List (List ℕ)) → AreDistinct (x ∷ xs) → AreDistinct xs
distinct-rest x xs distinct i j h k = distinct (suc i) (suc j) (omega (arith, h)) (omega (arith, k))

pub index-distinct : (xs : List (List ℕ)) (l : ℕ) → l < length xs → AreDistinct xs → index_in xs (layout_at xs l) ≡ l
index-distinct [] l h distinct = absurd (omega arith)
index-distinct (x ∷ xs) zero h distinct = let test : bytes_eq x x ≡ true = (bytes_eq-Decides x x).1 refl in rw test refl
index-distinct (x ∷ xs) (suc l) h distinct =
    let apart : x ≢ layout_at xs l = distinct 0 (suc l) (omega arith) h in
    by_test (bytes_eq x (layout_at xs l)) refl apart (index-distinct xs l (omega (arith, h)) (distinct-rest x xs distinct)) where
      by_test : (b : Bool) → bytes_eq x (layout_at xs l) ≡ b → x ≢ layout_at xs l → index_in xs (layout_at xs l) ≡ l → cond b 0 (suc (index_in xs (layout_at xs l))) ≡ suc l
      by_test true e apart later = absurd (apart ((bytes_eq-Decides x (layout_at xs l)).0 e))
      by_test false e apart later = ap (λ (n : ℕ). suc n) later

filled_cell : (o : Option ℤ) (x : ℤ) → o ≡ Some x → o ≡ Some (or_value o (pos 0))
filled_cell None x e = absurd (grind arith)
filled_cell (Some y) x e = refl

pub row-values : (checkers : ℕ) (layouts others : List (List ℕ)) (needed : List Bool) (row : List (Option ℤ)) → AreLayouts checkers layouts → length layouts ≤ 3276 → length others ≤ 8 → AreDistinct others → IsRow row
    → IsNeededRow (cell_value others row) layouts others needed row
unfolding best_over
row-values checkers layouts others needed row all few eight distinct is layer rank h k _ =
    let some : cell_of layer rank ≢ no_cell = λ e. absurd (omega (arith, e, k, few)) in
    let here = is.filled (cell_of layer rank) (omega (arith, h, k, few, eight)) some in
    let layer-is = index-distinct others layer h distinct in
    let rank-is = (all.each rank [] k).ranked in
    filled_cell (get_or row (cell_of layer rank) None) here.0 here.1
    ∙ (ap (λ (n : ℕ). Some (or_value (get_or row (cell_of n rank) None) (pos 0))) (sym layer-is)
    ∙ ap (λ (n : ℕ). Some (or_value (get_or row (cell_of (index_in others (layout_at others layer)) n) None) (pos 0))) (sym rank-is))
