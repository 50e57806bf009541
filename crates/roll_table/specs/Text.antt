-- Rolls as texts.
use Rattle.std.specs.Prelude.{ℕ, ◌+◌, ◌-◌, nat_lt, nat_le, Bool, not, ◌&&◌, List, [], ◌∷◌, Result, Ok, Err, if◌then◌else◌}
use Rattle.roll_table.specs.declared.roll.BadRoll.{BadRoll}
use Rattle.roll_table.specs.declared.roll.BadRoll.TheVariants.{Shape, Order}
use Rattle.roll_table.specs.Rolls.{Dice}

-- the digit of a die's number, and the number of a digit
abbrev pub die_digit : ℕ → ℕ
die_digit n = 48 + n

abbrev pub die_of : ℕ → ℕ
die_of byte = byte - 48

-- one of the digits 1 to 6
abbrev pub is_die : ℕ → Bool
is_die byte = nat_le (die_digit 1) byte && nat_le byte (die_digit 6)

-- two digits from 1 to 6, the first not the smaller
abbrev pub read_roll : List ℕ → Result Dice BadRoll
read_roll (a ∷ b ∷ []) =
    if not (is_die a && is_die b) then Err Shape
    else if nat_lt a b then Err Order
    else Ok (record { high = die_of a; low = die_of b })
read_roll _ = Err Shape

-- the higher number's digit and the lower's
abbrev pub roll_text : Dice → List ℕ
roll_text roll = die_digit roll.high ∷ die_digit roll.low ∷ []
