-- The report of a game that was solved.
use Rattle.std.specs.Prelude.{ℕ, List, ◌++◌, codes, decimal}
use Rattle.point_text.specs.Decimal.{millionths_up, millionths_text}
use Rattle.equity_report.specs.Files.{rounds_text, written_text}
use Rattle.equity_report.specs.Reports.{line, counted_text}
use Rattle.solve_reports.specs.declared.files.Solved.{Solved}

-- how large the game is, and the width of the widest pair in points, rounded up
abbrev pub solved_size_text : Solved → List ℕ
solved_size_text solved =
    line (codes "positions")
    (decimal solved.positions ++ codes " " ++ counted_text (codes "kinds") solved.kinds
    ++ codes " widest " ++ millionths_text (millionths_up solved.widest))

-- a game that was solved, and its file
abbrev pub solved_text : Solved → List ℕ → List ℕ
solved_text solved file =
    line (codes "solved")
    (rounds_text solved.game solved.rounds ++ codes " "
    ++ counted_text (codes "workers") solved.workers)
    ++ solved_size_text solved ++ written_text file solved.bytes
