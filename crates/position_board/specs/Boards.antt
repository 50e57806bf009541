-- A position as a board of text, as the mover sees it: X is who is to move, O the other side.
use Rattle.std.specs.Prelude.{ℕ, Bool, true, false, ◌-◌, List, [], ◌∷◌, ◌++◌, codes, decimal, nat_lt, slice_index, if◌then◌else◌}
use Rattle.std.specs.List.{flat_map}
use Rattle.position_rank.specs.Placement.{Placement}
use Rattle.race_table.specs.Races.{pips_of}

-- Three columns of a row, where X has so many checkers and O so many. Rows are counted from 0 at the edge of the board, and a row shows a
-- checker of the side that has more of them there than that.
unfoldable pub cell : ℕ → ℕ → ℕ → List ℕ
cell row mine theirs =
    if nat_lt row mine then codes " X " else if nat_lt row theirs then codes " O " else codes "   "

-- a point, by X's number
abbrev pub point_cell : Placement → ℕ → ℕ → List ℕ
point_cell p row point = cell row (slice_index p.mover point) (slice_index p.other (25 - point))

-- beside the board, a side's checkers that are off
unfoldable pub off_mark : ℕ → ℕ → List ℕ → List ℕ
off_mark row number mark = if nat_lt row number then mark else []

-- The upper half: points 13 to 18, the bar, 19 to 24. X enters here from the bar, and O's checkers go off here.
unfoldable pub upper_row : Placement → ℕ → List ℕ
upper_row p row =
    codes "|" ++ flat_map (point_cell p row) (13 ∷ 14 ∷ 15 ∷ 16 ∷ 17 ∷ 18 ∷ [])
    ++ codes "|" ++ cell row (slice_index p.mover 25) 0
    ++ codes "|" ++ flat_map (point_cell p row) (19 ∷ 20 ∷ 21 ∷ 22 ∷ 23 ∷ 24 ∷ [])
    ++ codes "|" ++ off_mark row (slice_index p.other 0) (codes " O") ++ codes "\n"

-- The lower half: points 12 to 7, the bar, 6 to 1. O enters here from the bar, and X's checkers go off here.
unfoldable pub lower_row : Placement → ℕ → List ℕ
lower_row p row =
    codes "|" ++ flat_map (point_cell p row) (12 ∷ 11 ∷ 10 ∷ 9 ∷ 8 ∷ 7 ∷ [])
    ++ codes "|" ++ cell row 0 (slice_index p.other 25)
    ++ codes "|" ++ flat_map (point_cell p row) (6 ∷ 5 ∷ 4 ∷ 3 ∷ 2 ∷ 1 ∷ [])
    ++ codes "|" ++ off_mark row (slice_index p.mover 0) (codes " X") ++ codes "\n"

-- the edge of the board, and three rows from it
unfoldable pub upper_half : Placement → List ℕ
upper_half p =
    codes "+13-14-15-16-17-18------19-20-21-22-23-24-+\n"
    ++ upper_row p 0 ++ upper_row p 1 ++ upper_row p 2

unfoldable pub lower_half : Placement → List ℕ
lower_half p =
    lower_row p 2 ++ lower_row p 1 ++ lower_row p 0
    ++ codes "+12-11-10--9--8--7-------6--5--4--3--2--1-+\n"

-- a side with its pips
abbrev pub pips_line : List ℕ → ℕ → List ℕ
pips_line side pips = side ++ decimal pips ++ codes " pips\n"

-- the whole board
unfoldable pub board_text : Placement → List ℕ
board_text p =
    pips_line (codes "O: ") (pips_of p.other) ++ upper_half p
    ++ codes "|                  |BAR|                  |\n" ++ lower_half p
    ++ pips_line (codes "X to move: ") (pips_of p.mover)

-- the board where it is asked for
abbrev pub board_told : Bool → Placement → List ℕ
board_told true p = board_text p
board_told false p = []
