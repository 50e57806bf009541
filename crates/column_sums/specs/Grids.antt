-- The steps of all layouts.
use Rattle.std.specs.Prelude.{◌≡◌, ◌≤◌, ◌<◌, ◌+◌, ◌*◌, ◌-◌, ℕ, List, length, slice_index_or}
use Rattle.move_rules.specs.Ends.{places}
use Rattle.column_sums.specs.Columns.{steps_from}
use Rattle.column_sums.specs.Leaps.{layout_at, AreLeaps}
use Rattle.column_sums.specs.declared.steps.Fan.{Fan}

-- for each of these layouts and each die, the steps
pub record AreFans (layouts : List (List ℕ)) (fans : List Fan) : Type 0 where
  pub few : length layouts ≤ 3276
  pub many : length fans ≡ length layouts * 6
  pub each : (rank die : ℕ) (none : Fan) → rank < length layouts → 1 ≤ die → die ≤ 6
      → AreLeaps layouts (slice_index_or fans (rank * 6 + (die - 1)) none).leaps.items
      (steps_from (layout_at layouts rank) die places)

-- the same of the first few
pub record AreFansTo (layouts : List (List ℕ)) (fans : List Fan) (count : ℕ) : Type 0 where
  pub many : length fans ≡ count
  pub each : (rank die : ℕ) (none : Fan) → rank < length layouts → 1 ≤ die → die ≤ 6
      → rank * 6 + (die - 1) < count
      → AreLeaps layouts (slice_index_or fans (rank * 6 + (die - 1)) none).leaps.items
      (steps_from (layout_at layouts rank) die places)
