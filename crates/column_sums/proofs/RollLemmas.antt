-- The best play of a roll is found in the tables.
use Rattle.std.proofs.Common.{◌≡◌, ◌≢◌, ◌≤◌, ◌∙◌, ℕ, ℤ, pos, get_or, List, [], ◌∷◌, length, Option, Some, None, refl, ap, arith}
use Rattle.position_rank.specs.Placement.{Placement}
use Rattle.column_sums.specs.Cascade.{or_max, or_value, best_over, best_pair, best_double}
use Rattle.column_sums.specs.Cells.{cell_placement, IsCell, IsReach}
use Rattle.column_sums.specs.Tables.{IsRightAt, IsRightAfter, best_after}
use Rattle.column_sums.specs.Rolls.{fewer_of_pair, fewer_of_double, pair_found, double_found}
use Rattle.column_sums.specs.declared.cells.Reach.{Reach}
use Rattle.column_sums.proofs.CellLemmas.{best-cell}
use Rattle.column_sums.proofs.TableLemmas.{after-right}

-- the tables are right where the two dice lead from a cell, in either order
pub record IsPairReady (value : Placement → ℤ) (layouts others : List (List ℕ)) (a b : ℕ)
    (high low : Reach) (row after_high after_low : List (Option ℤ)) : Type 0 where
  pub few : length layouts ≤ 3276
  pub by_high : IsReach layouts others a high
  pub by_low : IsReach layouts others b low
  pub same : low.cell ≡ high.cell
  pub none : IsRightAt value [] layouts others row high.cell
  pub higher : IsRightAt value (a ∷ []) layouts others after_high high.cell
  pub lower : IsRightAt value (b ∷ []) layouts others after_low high.cell
  pub high_first : IsRightAfter value (b ∷ []) layouts others after_low high
  pub low_first : IsRightAfter value (a ∷ []) layouts others after_high low

-- the tables are right where up to four dice of a number lead from a cell
pub record IsDoubleReady (value : Placement → ℤ) (layouts others : List (List ℕ)) (die : ℕ)
    (reach : Reach) (row one two three : List (Option ℤ)) : Type 0 where
  pub few : length layouts ≤ 3276
  pub reaches : IsReach layouts others die reach
  pub none : IsRightAt value [] layouts others row reach.cell
  pub once : IsRightAt value (die ∷ []) layouts others one reach.cell
  pub twice : IsRightAt value (die ∷ die ∷ []) layouts others two reach.cell
  pub thrice : IsRightAt value (die ∷ die ∷ die ∷ []) layouts others three reach.cell
  pub four : IsRightAfter value (die ∷ die ∷ die ∷ []) layouts others three reach

pub or-first : (o : Option ℤ) (a b : ℤ) → o ≢ None → or_value o a ≡ or_value o b
or-first None a b some = absurd (some refl)
or-first (Some x) a b some = refl

pub or-rest : (o : Option ℤ) (a b : ℤ) → o ≡ None → a ≡ b → a ≡ or_value o b
or-rest None a b none is = is
or-rest (Some x) a b none is = absurd (grind arith)

chosen : (o p : Option ℤ) (a b : ℤ) → o ≡ p → a ≡ b → or_value o a ≡ or_value p b
chosen o p a b e f = ap (λ (x : Option ℤ). or_value x a) e ∙ ap (or_value p) f

module _ (value : Placement → ℤ) (layouts others : List (List ℕ)) (few : length layouts ≤ 3276) (cell : ℕ) (is : IsCell (length layouts) (length others) cell) where
  at-cell : (dice : List ℕ) (table : List (Option ℤ)) → IsRightAt value dice layouts others table cell → get_or table cell None ≡ best_over value dice (cell_placement layouts others cell)
  at-cell dice table right = right ∙ best-cell layouts others few value dice cell is

  at-row : (row : List (Option ℤ)) → IsRightAt value [] layouts others row cell → or_value (get_or row cell None) (pos 0) ≡ value (cell_placement layouts others cell)
  unfolding best_over
  at-row row right = ap (λ (o : Option ℤ). or_value o (pos 0)) (at-cell [] row right)

module _ (value : Placement → ℤ) (layouts others : List (List ℕ)) (a b : ℕ) (high low : Reach) (row after_high after_low : List (Option ℤ)) (ready : IsPairReady value layouts others a b high low row after_high after_low) where
  abbrev p : Placement
  p = cell_placement layouts others high.cell

  fewer-pair : fewer_of_pair high.cell row after_high after_low ≡ or_value (best_over value (a ∷ []) p) (or_value (best_over value (b ∷ []) p) (value p))
  fewer-pair =
      let cell = ready.by_high.cell in
      chosen _ _ _ _ (at-cell value layouts others ready.few high.cell cell (a ∷ []) after_high ready.higher)
      (chosen _ _ _ _ (at-cell value layouts others ready.few high.cell cell (b ∷ []) after_low ready.lower) (at-row value layouts others ready.few high.cell cell row ready.none))

  both-pair : or_max (best_after after_low high) (best_after after_high low) ≡ or_max (best_over value (a ∷ b ∷ []) p) (best_over value (b ∷ a ∷ []) p)
  both-pair =
      let first = after-right value layouts others ready.few (b ∷ []) a after_low high ready.by_high ready.high_first in
      let second = after-right value layouts others ready.few (a ∷ []) b after_high low ready.by_low ready.low_first in
      let second' = second ∙ ap (λ (c : ℕ). best_over value (b ∷ a ∷ []) (cell_placement layouts others c)) ready.same in
      ap (λ (o : Option ℤ). or_max o (best_after after_high low)) first ∙ ap (or_max (best_over value (a ∷ b ∷ []) p)) second'

  pub pair-is : pair_found high low row after_high after_low ≡ best_pair value a b p
  unfolding best_pair
  pair-is = chosen _ _ _ _ both-pair fewer-pair

module _ (value : Placement → ℤ) (layouts others : List (List ℕ)) (die : ℕ) (reach : Reach) (row one two three : List (Option ℤ)) (ready : IsDoubleReady value layouts others die reach row one two three) where
  abbrev q : Placement
  q = cell_placement layouts others reach.cell

  abbrev fewer : ℤ
  fewer = or_value (best_over value (die ∷ die ∷ die ∷ []) q) (or_value (best_over value (die ∷ die ∷ []) q) (or_value (best_over value (die ∷ []) q) (value q)))

  fewer-double : fewer_of_double reach.cell row one two three ≡ fewer
  fewer-double =
      let cell = ready.reaches.cell in
      chosen _ _ _ _ (at-cell value layouts others ready.few reach.cell cell (die ∷ die ∷ die ∷ []) three ready.thrice)
      (chosen _ _ _ _ (at-cell value layouts others ready.few reach.cell cell (die ∷ die ∷ []) two ready.twice)
      (chosen _ _ _ _ (at-cell value layouts others ready.few reach.cell cell (die ∷ []) one ready.once) (at-row value layouts others ready.few reach.cell cell row ready.none)))

  four-double : best_after three reach ≡ best_over value (die ∷ die ∷ die ∷ die ∷ []) q
  four-double = after-right value layouts others ready.few (die ∷ die ∷ die ∷ []) die three reach ready.reaches ready.four

  pub double-is : double_found reach row one two three ≡ best_double value die q
  unfolding best_double
  double-is = chosen _ _ _ _ four-double fewer-double
