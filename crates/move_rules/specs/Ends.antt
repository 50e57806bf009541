-- The legal ends as a list, found by trying every place with every order of the dice.
use Rattle.std.specs.Prelude.{ℕ, zero, suc, ◌-◌, ◌==◌, nat_lt, nat_le, max, Bool, not, ◌&&◌, ◌||◌, List, [], ◌∷◌, ◌++◌, length, map, filter, Option, Some, None, is_some, unwrap_or, slice_index, if◌then◌else◌}
use Rattle.std.specs.List.{flat_map, list_any}
use Rattle.std.specs.Option.{option_to_list}
use Rattle.position_rank.specs.Placement.{Placement, moved, above, hit}
use Rattle.roll_table.specs.Rolls.{Dice}
use Rattle.move_rules.specs.declared.play.Move.{Move}

abbrev pub may_leave : Placement → ℕ → Bool
may_leave p from =
    nat_lt 0 (slice_index p.mover from) && (from == 25 || slice_index p.mover 25 == 0)

abbrev pub can_run : Placement → ℕ → ℕ → Bool
can_run p die from =
    may_leave p from && nat_lt die from && nat_le (slice_index p.other (25 - (from - die))) 1

abbrev pub can_bear_off : Placement → ℕ → ℕ → Bool
can_bear_off p die from = may_leave p from && nat_le from die && above p.mover 6 == 0
    && (from == die || above p.mover from == 0)

-- what the move leaves, if it can be made
unfoldable pub after_move : Placement → ℕ → ℕ → Option Placement
after_move p die from =
    if can_run p die from
    then Some (record
    { mover = moved p.mover from (from - die); other = hit p.other (25 - (from - die)) })
    else if can_bear_off p die from
    then Some (record { mover = moved p.mover from 0; other = p.other })
    else None

-- what a move leaves that can be made
abbrev pub next_board : Placement → Move → Placement
next_board p move = unwrap_or (after_move p move.die move.from) p

-- from this place down to 1
abbrev pub down_from : ℕ → List ℕ
down_from zero = []
down_from (suc n) = suc n ∷ down_from n

-- the places that a checker may leave, the bar first
unfoldable pub places : List ℕ
places = down_from 25

-- a sequence and what it leaves
abbrev pub Line : Type 0
Line = List Move × Placement

-- a line after one more move in front
abbrev pub before : ℕ → ℕ → Line → Line
before die from line = (record { from = from; die = die } ∷ line.0, line.1)

-- the lines of these dice that begin with a move from this place
unfoldable pub lines_from : (Placement → List Line) → Placement → ℕ → ℕ → List Line
lines_from later p die from =
    map (before die from) (flat_map later (option_to_list (after_move p die from)))

-- every sequence that uses the first few of these dice, in this order
unfoldable pub lines : List ℕ → Placement → List Line
lines [] p = ([], p) ∷ []
lines (die ∷ dice) p = ([], p) ∷ flat_map (lines_from (lines dice) p die) places

unfoldable pub all_lines : Placement → Dice → List Line
all_lines p roll =
    if roll.high == roll.low then lines (roll.high ∷ roll.high ∷ roll.high ∷ roll.high ∷ []) p
    else lines (roll.high ∷ roll.low ∷ []) p ++ lines (roll.low ∷ roll.high ∷ []) p

-- the greatest number of moves
abbrev pub longest : List Line → ℕ
longest [] = 0
longest (line ∷ rest) = max (length line.0) (longest rest)

abbrev pub can_play : Placement → ℕ → Bool
can_play p die = list_any (λ from. is_some (after_move p die from)) places

-- of one move, by the higher die if that can be played
abbrev pub right_die : Placement → Dice → Line → Bool
right_die p roll line =
    not (length line.0 == 1) || roll.high == roll.low || not (can_play p roll.high)
    || list_any (λ (move : Move). move.die == roll.high) line.0

-- the legal sequences, each with what it leaves
unfoldable pub legal_lines : Placement → Dice → List Line
legal_lines p roll =
    let all = all_lines p roll in
    filter (λ (line : Line). length line.0 == longest all && right_die p roll line) all

-- what the legal sequences leave
unfoldable pub legal_ends : Placement → Dice → List Placement
legal_ends p roll = map (λ (line : Line). line.1) (legal_lines p roll)
