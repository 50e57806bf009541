-- The sums of a column, from what was found of the plays' ends.
use Rattle.std.proofs.Common.{◌<◌, ◌≤◌, ◌^◌, ℕ, ℤ, pos, ◌≤ℤ◌, List, length, get_or, Option, refl, arith}
use Rattle.position_rank.specs.Placement.{Placement}
use Rattle.roll_table.specs.Rolls.{all_rolls}
use Rattle.directed_fixed.specs.declared.bounds.End.{End}
use Rattle.directed_fixed.specs.Bounds.{IsWithinUnits}
use Rattle.cube_actions.specs.Stakes.{Terms, kind_at, IsValid}
use Rattle.turn_rule.specs.Looks.{Source, Notes, AreStakesOf}
use Rattle.turn_rule.specs.Found.{IsFoundOf, of_sum}
use Rattle.column_sums.specs.Leaps.{layout_at}
use Rattle.column_sums.specs.AfterHits.{AreDistinct, AreClosedByHits}
use Rattle.column_sums.specs.Tables.{IsRow, IsNeededRow}
use Rattle.column_sums.specs.ColumnOf.{ColumnOf, AreColumnSums}
use Rattle.column_sums.specs.FoundCells.{AreFoundCells}
use Rattle.turn_rule.proofs.Within.{bound-positive, bound-small}
use Rattle.turn_rule.proofs.RollSums.{sum-small}
use Rattle.column_sums.proofs.ColumnFound.{column-found}
use Rattle.column_turns.specs.Rows.{AreFoundLayers}
use Rattle.column_turns.specs.Turns.{mover_at, IsColumnOf}

module _ (end : End) (s : Source) (stakes : Terms) (noted : Notes) (k : ℕ) (column : ColumnOf) (row : List (Option ℤ)) (one : List ℤ) where
  pub sums-found : IsValid stakes → AreStakesOf s stakes → IsColumnOf s column.layouts column.others column.movers → length column.others ≤ 8 → AreDistinct column.others → AreClosedByHits column.others → IsRow row → k < length stakes.kinds
      → AreFoundLayers end s noted (kind_at stakes k) column.layouts column.others column.needed row (length column.others)
      → ((value : Placement → ℤ) → IsNeededRow value column.layouts column.others column.needed row → AreColumnSums value column all_rolls one)
      → (i : ℕ) → i < length column.movers → IsFoundOf end (of_sum stakes (mover_at column.layouts (layout_at column.others 0) column.movers i) k) s noted (get_or one i (pos 0))
  sums-found valid fits is few distinct closed right here found sums i below =
      let layouts = column.layouts in
      let others = column.others in
      let p = mover_at layouts (layout_at others 0) column.movers i in
      let cells : AreFoundCells end s noted (kind_at stakes k) layouts others column.needed row = λ layer rank l r. found layer l rank r in
      column-found end s stakes noted k layouts others column.needed row is.all is.few few distinct right cells valid fits closed p (is.states i k below (rw fits.kinds here)) (0, is.some, refl)
      (get_or one i (pos 0)) (λ value row-is. sums value row-is i below)

  -- it is small
  pub sums-small : IsValid stakes → AreStakesOf s stakes → (p : Placement) (x : ℤ) → IsFoundOf end (of_sum stakes p k) s noted x → IsWithinUnits (pos (2 ^ 42)) x
  sums-small valid fits p x found =
      let positive : pos 0 ≤ℤ s.bound = rw fits.bound (bound-positive stakes valid) in
      let small : s.bound ≤ℤ pos (2 ^ 36) = rw fits.bound (bound-small stakes valid) in
      sum-small 36 s.bound x (omega arith) positive small found.within
