-- The greatest worth of a turn's ends, worked out die by die from the ends, without a list of plays.
use Rattle.std.specs.Prelude.{ℕ, ℤ, pos, ◌+ℤ◌, ◌*ℤ◌, ◌==◌, List, [], ◌∷◌, Option, Some, None, map, if◌then◌else◌}
use Rattle.std.specs.Int.{int_max}
use Rattle.position_rank.specs.Placement.{Placement}
use Rattle.roll_table.specs.Rolls.{Dice}
use Rattle.move_rules.specs.Ends.{Line, after_move, places}

-- the greater of two values, each of which may be missing
abbrev pub or_max : Option ℤ → Option ℤ → Option ℤ
or_max None b = b
or_max (Some a) None = Some a
or_max (Some a) (Some b) = Some (int_max a b)

-- the first value, or the second where it is missing
abbrev pub or_value : Option ℤ → ℤ → ℤ
or_value None b = b
or_value (Some a) b = a

-- the value of what a move leaves, if it can be made
abbrev pub then_value : (Placement → Option ℤ) → Option Placement → Option ℤ
then_value later None = None
then_value later (Some q) = later q

-- the greatest value of what moves by this die from these places leave
abbrev pub over_places : (Placement → Option ℤ) → Placement → ℕ → List ℕ → Option ℤ
over_places later p die [] = None
over_places later p die (from ∷ rest) =
    or_max (then_value later (after_move p die from)) (over_places later p die rest)

-- the greatest value that is reached by moves that use all of these dice, in this order
unfoldable pub best_over : (Placement → ℤ) → List ℕ → Placement → Option ℤ
best_over value [] p = Some (value p)
best_over value (die ∷ dice) p = over_places (best_over value dice) p die places

-- as many of a double's four moves as can be made
unfoldable pub best_double : (Placement → ℤ) → ℕ → Placement → ℤ
best_double value die p =
    or_value (best_over value (die ∷ die ∷ die ∷ die ∷ []) p)
    (or_value (best_over value (die ∷ die ∷ die ∷ []) p)
    (or_value (best_over value (die ∷ die ∷ []) p)
    (or_value (best_over value (die ∷ []) p) (value p))))

-- both dice in either order, else the higher, else the lower, else none
unfoldable pub best_pair : (Placement → ℤ) → ℕ → ℕ → Placement → ℤ
best_pair value high low p =
    or_value (or_max (best_over value (high ∷ low ∷ []) p) (best_over value (low ∷ high ∷ []) p))
    (or_value (best_over value (high ∷ []) p) (or_value (best_over value (low ∷ []) p) (value p)))

-- the value of the best play of a roll
unfoldable pub best_of_roll : (Placement → ℤ) → Placement → Dice → ℤ
best_of_roll value p roll = if roll.high == roll.low
    then best_double value roll.high p
    else best_pair value roll.high roll.low p

-- the greatest value of some boards
abbrev pub greatest_if_any : (Placement → ℤ) → List Placement → Option ℤ
greatest_if_any value [] = None
greatest_if_any value (q ∷ rest) = or_max (Some (value q)) (greatest_if_any value rest)

-- over some rolls, the sum of the best play's value, each roll as often as it comes
abbrev pub best_sum : List (Dice × ℕ) → (Placement → ℤ) → Placement → ℤ
best_sum [] value p = pos 0
best_sum (roll ∷ rolls) value p =
    pos roll.1 *ℤ best_of_roll value p roll.0 +ℤ best_sum rolls value p

-- the ends of some lines
abbrev pub line_ends : List Line → List Placement
line_ends lines = map (λ (line : Line). line.1) lines
