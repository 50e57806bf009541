-- What a position is worth to the side that moves, bounded from words on the positions after its turn.
use Rattle.std.specs.Prelude.{ℕ, zero, suc, ℤ, pos, neg_ℤ, ◌+ℤ◌, ◌*ℤ◌, List, [], ◌∷◌, Option, Some, None, map, slice_index_or}
use Rattle.std.specs.Int.{int_max, int_min}
use Rattle.position_rank.specs.Placement.{Placement, swap}
use Rattle.roll_table.specs.Rolls.{Dice, all_rolls}
use Rattle.move_rules.specs.Ends.{legal_ends}
use Rattle.move_rules.specs.declared.payoff.Won.{Won}
use Rattle.move_rules.specs.declared.payoff.Won.TheVariants.{Single, Gammon, Backgammon}
use Rattle.move_rules.specs.Payoff.{points}
use Rattle.directed_fixed.specs.declared.bounds.End.{End}
use Rattle.directed_fixed.specs.declared.bounds.End.TheVariants.{Lower, Upper}
use Rattle.directed_fixed.specs.Bounds.{Bounds, other, at}
use Rattle.directed_fixed.specs.Rounding.{outwards}
use Rattle.cube_actions.specs.declared.kind.Kind.{Kind}
use Rattle.cube_actions.specs.declared.kind.Double.{Double}
use Rattle.cube_actions.specs.declared.kind.Taken.{Taken}
use Rattle.cube_actions.specs.Stakes.{Terms, kind_at, nothing}

-- a lower and an upper word for each position and kind
abbrev pub Words : Type 0
Words = End → Placement → ℕ → ℤ

-- what a win in this kind is worth
abbrev pub win : Kind → Won → Bounds
win kind Single = slice_index_or kind.win 0 nothing
win kind Gammon = slice_index_or kind.win 1 nothing
win kind Backgammon = slice_index_or kind.win 2 nothing

-- the value of the win, if the game has ended, else the rest
abbrev pub if_won : Option Won → (Won → ℤ) → ℤ → ℤ
if_won None value rest = rest
if_won (Some won) value rest = value won

-- What the mover has after his play: his win, or what the other side, whose turn it then is, hasn't.
-- A lower bound of the one side is an upper bound of the other.
abbrev pub worth : End → Kind → Words → Placement → ℤ
worth end kind u q =
    if_won (points q) (λ won. at end (win kind won)) (neg_ℤ (u (other end) (swap q) kind.next))

-- the greatest value of a list that isn't empty
abbrev pub greatest : (Placement → ℤ) → List Placement → ℤ
greatest value [] = pos 0
greatest value (q ∷ []) = value q
greatest value (q ∷ r ∷ rest) = int_max (value q) (greatest value (r ∷ rest))

-- over some rolls, the sum of the best play's value, each roll as often as it comes
abbrev pub sum_over : List (Dice × ℕ) → (Placement → ℤ) → Placement → ℤ
sum_over [] value p = pos 0
sum_over (roll ∷ rolls) value p =
    pos roll.1 *ℤ greatest value (legal_ends p roll.0) +ℤ sum_over rolls value p

-- rolling in a kind that counts so many times: the mean over the 36 ways of two dice, rounded outwards
abbrev pub roll_value : End → Terms → Words → Placement → ℕ → ℕ → ℤ
roll_value end stakes u p k factor =
    outwards end (pos factor *ℤ sum_over all_rolls (worth end (kind_at stakes k) u) p)

-- the least of a value and some others
abbrev pub least : ℤ → List ℤ → ℤ
least value [] = value
least value (v ∷ rest) = least (int_min value v) rest

-- after a double the other side chooses what leaves the doubler least: to pass, or one of its answers
abbrev pub doubled : End → Terms → Words → Placement → Double → ℤ
doubled end stakes u p double =
    least (at end double.pass)
    (map (λ (taken : Taken). roll_value end stakes u p taken.kind taken.factor)
    double.answers.items)

-- with a right to double the mover has the better of rolling at once and of doubling
abbrev pub or_double : End → Terms → Words → Placement → ℤ → Option Double → ℤ
or_double end stakes u p plain None = plain
or_double end stakes u p plain (Some double) = int_max plain (doubled end stakes u p double)

-- one turn: the words before it from the words after it
unfoldable pub turn : Terms → Words → Words
turn stakes u end p k =
    or_double end stakes u p (roll_value end stakes u p k 1) (kind_at stakes k).double

-- what the bound alone tells of a game that may end anyhow
abbrev pub bound_words : Terms → Words
bound_words stakes Lower p k = neg_ℤ stakes.bound
bound_words stakes Upper p k = stakes.bound

-- the pair of which only the bound is known
abbrev pub bound_pair : Terms → Bounds
bound_pair stakes = record { lower = neg_ℤ stakes.bound; upper = stakes.bound }

-- the words after so many rounds, in each of which every state takes its turn over the words of the round before
unfoldable pub rounds : Terms → ℕ → Words
rounds stakes zero = bound_words stakes
rounds stakes (suc r) = turn stakes (rounds stakes r)
