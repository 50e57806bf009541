-- The report of a position's bounds after some rounds.
use Rattle.std.specs.Prelude.{ℕ, Bool, List, ◌++◌, codes, decimal}
use Rattle.position_rank.specs.Placement.{Placement}
use Rattle.position_text.specs.Text.{position_text}
use Rattle.position_board.specs.Boards.{board_told}
use Rattle.directed_fixed.specs.Bounds.{Bounds}
use Rattle.equity_report.specs.Reports.{line, pair_text}

-- a position's pair after so many rounds of a game without a cube
abbrev pub bound_text : (board : Bool) → Placement → ℕ → Bounds → List ℕ
bound_text board p rounds pair =
    board_told board p ++ line (codes "position") (position_text p)
    ++ line (codes "rounds") (decimal rounds) ++ line (codes "alone") (pair_text pair)
