-- The report of a race.
use Rattle.std.specs.Prelude.{ℕ, Bool, List, ◌++◌, codes, decimal}
use Rattle.position_rank.specs.Placement.{Placement}
use Rattle.position_text.specs.Text.{position_text}
use Rattle.position_board.specs.Boards.{board_told}
use Rattle.directed_fixed.specs.Bounds.{Bounds}
use Rattle.equity_report.specs.Reports.{line, pair_text}

-- a race, how many turns it may still take, and its pair in a game without a cube
abbrev pub race_text : (board : Bool) → Placement → ℕ → Bounds → List ℕ
race_text board p turns pair =
    board_told board p ++ line (codes "position") (position_text p)
    ++ line (codes "turns") (decimal turns) ++ line (codes "alone") (pair_text pair)
