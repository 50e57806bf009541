-- The report of a ladder: a line for each score that was solved, and a last one.
use Rattle.std.specs.Prelude.{ℕ, ℤ, List, ◌++◌, codes}
use Rattle.directed_fixed.specs.Bounds.{Bounds}
use Rattle.point_text.specs.Decimal.{millionths_up, millionths_text}
use Rattle.cube_text.specs.Texts.{score_text}
use Rattle.cube_actions.specs.Scores.{MatchScore}
use Rattle.equity_report.specs.Reports.{line, counted_text, points_text}

-- the pair of a score's start and the width of its widest pair, rounded up, both in matches
abbrev pub ladder_score_text : MatchScore → Bounds → ℤ → List ℕ
ladder_score_text score start widest =
    line (codes "score")
    (score_text score ++ codes " start " ++ points_text start ++ codes " widest "
    ++ millionths_text (millionths_up widest))

-- a match: how many checkers a side has, and to how many points it is
abbrev pub match_text : ℕ → ℕ → List ℕ
match_text checkers match_length = counted_text (codes "checkers") checkers ++ codes " "
    ++ counted_text (codes "length") match_length

-- by how many rounds and workers each score was solved
abbrev pub work_text : ℕ → ℕ → List ℕ
work_text rounds workers =
    counted_text (codes "rounds") rounds ++ codes " " ++ counted_text (codes "workers") workers

-- what was solved
abbrev pub ladder_end_text : (checkers match_length rounds workers : ℕ) → List ℕ
ladder_end_text checkers match_length rounds workers = line (codes "ladder")
    (match_text checkers match_length ++ codes " " ++ work_text rounds workers)
