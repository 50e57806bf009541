-- What a side asks before it takes a double, and what a gammon is worth to it, where its values are known by their bounds.
use Rattle.std.specs.Prelude.{◌<◌, ◌^◌, ℕ, ℤ, pos, ◌*ℤ◌, ◌-ℤ◌, ◌≤ℤ◌, ◌<ℤ◌, int_le, int_lt, unsigned_abs, Bool, ◌&&◌, Option, Some, None, if◌then◌else◌}
use Rattle.directed_fixed.specs.Bounds.{Bounds}
use Rattle.match_plan.specs.declared.millionths.Millionths.{Millionths}
use Rattle.match_plan.specs.Quotients.{quotient_down, quotient_up, IsShare}

-- how far the second value is above the first
abbrev pub rise : ℤ → ℤ → ℕ
rise from to = unsigned_abs (to -ℤ from)

-- ---- take points

-- A side that is doubled has one value where it passes, and where it takes another one if it loses and if it wins. Its take point is the chance
-- of winning at which a take is worth as much as a pass. It is known where a pass lies between the two, whichever values inside the bounds they are.
pub record IsTakePointKnown (lose pass win : Bounds) : Type 0 where
  pub lose_below : lose.upper ≤ℤ pass.lower
  pub win_above : pass.upper ≤ℤ win.lower
  pub apart : lose.upper <ℤ win.lower

abbrev pub is_take_point_known : Bounds → Bounds → Bounds → Bool
is_take_point_known lose pass win =
    int_le lose.upper pass.lower && int_le pass.upper win.lower && int_lt lose.upper win.lower

-- Of (pass - lose) / (win - lose), the least is where the pass is worth least and the others most, the greatest the other way round.
abbrev pub take_bounds : Bounds → Bounds → Bounds → Millionths
take_bounds lose pass win = record {
  low = quotient_down (rise lose.upper pass.lower) (rise lose.upper win.upper);
  high = quotient_up (rise lose.lower pass.upper) (rise lose.lower win.lower);
}

abbrev pub take_point : Bounds → Bounds → Bounds → Option Millionths
take_point lose pass win = if is_take_point_known lose pass win
    then Some (take_bounds lose pass win)
    else None

-- ---- gammon prices

-- The gammon price is what a gammon is worth more than a single win, where what a single win is worth more than a loss counts 1. It is known where a
-- gammon is worth no less than a single win, and that more than a loss, whichever values inside the bounds they are.
pub record IsGammonPriceKnown (lose win gammon : Bounds) : Type 0 where
  pub gammon_above : win.upper ≤ℤ gammon.lower
  pub apart : lose.upper <ℤ win.lower

abbrev pub is_gammon_price_known : Bounds → Bounds → Bounds → Bool
is_gammon_price_known lose win gammon = int_le win.upper gammon.lower && int_lt lose.upper win.lower

-- Of (gammon - win) / (win - lose), the least is where the gammon and the loss are worth least and the win most, the greatest the other way round.
abbrev pub price_bounds : Bounds → Bounds → Bounds → Millionths
price_bounds lose win gammon = record {
  low = quotient_down (rise win.upper gammon.lower) (rise lose.lower win.upper);
  high = quotient_up (rise win.lower gammon.upper) (rise lose.upper win.lower);
}

abbrev pub gammon_price : Bounds → Bounds → Bounds → Option Millionths
gammon_price lose win gammon = if is_gammon_price_known lose win gammon
    then Some (price_bounds lose win gammon)
    else None

-- ---- what both are of

-- a value, a whole number of points over a scale, lies inside a pair; there are 2 ^ 32 units to a point
pub record LiesInside (scale : ℕ) (pair : Bounds) (value : ℤ) : Type 0 where
  pub from : (pos scale *ℤ pair.lower) ≤ℤ (pos (2 ^ 32) *ℤ value)
  pub to : (pos (2 ^ 32) *ℤ value) ≤ℤ (pos scale *ℤ pair.upper)

-- whichever values inside the bounds they are, these millionths enclose their take point
abbrev pub EnclosesTakePoints : Bounds → Bounds → Bounds → Millionths → Type 0
EnclosesTakePoints lose pass win found =
    (scale : ℕ) (l p w : ℤ) → 0 < scale → LiesInside scale lose l → LiesInside scale pass p
    → LiesInside scale win w
    → IsShare found (p -ℤ l) (w -ℤ l)

-- and these their gammon price
abbrev pub EnclosesGammonPrices : Bounds → Bounds → Bounds → Millionths → Type 0
EnclosesGammonPrices lose win gammon found =
    (scale : ℕ) (l w g : ℤ) → 0 < scale → LiesInside scale lose l → LiesInside scale win w
    → LiesInside scale gammon g
    → IsShare found (g -ℤ w) (w -ℤ l)
