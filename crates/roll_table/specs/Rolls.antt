-- Rolls of two dice.
use Rattle.std.specs.Prelude.{ℕ, ◌≤◌, ◌==◌, not, List, [], ◌∷◌, map, filter, if◌then◌else◌}
use Rattle.std.specs.List.{flat_map, range_with_len}

-- the numbers thrown, the higher first
pub record Dice : Type 0 where
  pub high : ℕ
  pub low : ℕ

-- both are numbers of a die, the higher first
pub record IsRoll (roll : Dice) : Type 0 where
  pub from : 1 ≤ roll.low
  pub in_order : roll.low ≤ roll.high
  pub to : roll.high ≤ 6

-- the dice that may be used: four of a double's number, or the two numbers
abbrev pub dice_of : Dice → List ℕ
dice_of roll = if roll.high == roll.low
    then roll.high ∷ roll.high ∷ roll.high ∷ roll.high ∷ []
    else roll.high ∷ roll.low ∷ []

-- a double comes in one way, another roll in two
abbrev pub weighted_roll : ℕ → ℕ → Dice × ℕ
weighted_roll high low = (record { high = high; low = low }, if high == low then 1 else 2)

-- the 21 rolls with the ways in which they come, by rising high die and then rising low die
unfoldable pub all_rolls : List (Dice × ℕ)
all_rolls = flat_map (λ high. map (weighted_roll high) (range_with_len 1 high)) (range_with_len 1 6)

-- the rolls of unequal dice, in the same order
unfoldable pub opening_rolls : List Dice
opening_rolls = filter (λ (roll : Dice). not (roll.high == roll.low))
    (map (λ (weighted : Dice × ℕ). weighted.0) all_rolls)
