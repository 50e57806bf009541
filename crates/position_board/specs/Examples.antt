-- Boards that were drawn by hand.
use Rattle.std.specs.Prelude.{ℕ, List, ◌++◌, codes}

-- three checkers a side as the game begins
abbrev pub start_board : List ℕ
start_board =
    codes "O: 69 pips\n"
    ++ codes "+13-14-15-16-17-18------19-20-21-22-23-24-+\n"
    ++ codes "|                  |   |          X  X  X |\n"
    ++ codes "|                  |   |                  |\n"
    ++ codes "|                  |   |                  |\n"
    ++ codes "|                  |BAR|                  |\n"
    ++ codes "|                  |   |                  |\n"
    ++ codes "|                  |   |                  |\n"
    ++ codes "|                  |   |          O  O  O |\n"
    ++ codes "+12-11-10--9--8--7-------6--5--4--3--2--1-+\n"
    ++ codes "X to move: 69 pips\n"

-- bar 6 off / 2 2 off
abbrev pub entering_board : List ℕ
entering_board =
    codes "O: 4 pips\n"
    ++ codes "+13-14-15-16-17-18------19-20-21-22-23-24-+\n"
    ++ codes "|                  | X |             O    | O\n"
    ++ codes "|                  |   |             O    |\n"
    ++ codes "|                  |   |                  |\n"
    ++ codes "|                  |BAR|                  |\n"
    ++ codes "|                  |   |                  |\n"
    ++ codes "|                  |   |                  |\n"
    ++ codes "|                  |   | X                | X\n"
    ++ codes "+12-11-10--9--8--7-------6--5--4--3--2--1-+\n"
    ++ codes "X to move: 31 pips\n"

-- 13 13 7 / bar bar off
abbrev pub hit_board : List ℕ
hit_board =
    codes "O: 50 pips\n"
    ++ codes "+13-14-15-16-17-18------19-20-21-22-23-24-+\n"
    ++ codes "| X                |   |                  | O\n"
    ++ codes "| X                |   |                  |\n"
    ++ codes "|                  |   |                  |\n"
    ++ codes "|                  |BAR|                  |\n"
    ++ codes "|                  |   |                  |\n"
    ++ codes "|                  | O |                  |\n"
    ++ codes "|                X | O |                  |\n"
    ++ codes "+12-11-10--9--8--7-------6--5--4--3--2--1-+\n"
    ++ codes "X to move: 33 pips\n"
