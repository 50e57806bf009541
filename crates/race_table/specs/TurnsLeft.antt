-- How many turns a race may still take.
use Rattle.std.specs.Prelude.{ℕ, zero, suc, ◌+◌, max, List, [], ◌∷◌, Option, Some, None}
use Rattle.position_rank.specs.Placement.{Placement, swap}
use Rattle.roll_table.specs.Rolls.{Dice, all_rolls}
use Rattle.move_rules.specs.Ends.{legal_ends}
use Rattle.move_rules.specs.declared.payoff.Won.{Won}
use Rattle.move_rules.specs.Payoff.{points}
use Rattle.race_table.specs.Races.{pips}

-- the greatest number for one of these ends of plays
abbrev pub most : (Placement → ℕ) → List Placement → ℕ
most count [] = 0
most count (end ∷ ends) = max (count end) (most count ends)

-- and for a legal end of one of these rolls
abbrev pub most_over : List (Dice × ℕ) → (Placement → ℕ) → Placement → ℕ
most_over [] count p = 0
most_over (roll ∷ rolls) count p = max (most count (legal_ends p roll.0)) (most_over rolls count p)

-- 0 where the game has ended, else the rest
abbrev pub if_goes_on : Option Won → ℕ → ℕ
if_goes_on None rest = rest
if_goes_on (Some won) rest = 0

-- how many turns are left after a play that ends so: none where it ends the game, else those of the other side's position
abbrev pub left_after : (Placement → ℕ) → Placement → ℕ
left_after left end = if_goes_on (points end) (left (swap end))

-- how many turns the game may take, of which no more than so many are counted: one, and the greatest number that is left after it
unfoldable pub turns_upto : ℕ → Placement → ℕ
turns_upto zero p = 0
turns_upto (suc n) p = 1 + most_over all_rolls (left_after (turns_upto n)) p

-- how many turns a race may still take: no more than it has pips, since each turn moves a checker
unfoldable pub turns_left : Placement → ℕ
turns_left p = turns_upto (pips p) p
