-- The reports of advice: the plays of a roll from the best to the worst, or what to do with the cube.
use Rattle.std.specs.Prelude.{ℕ, suc, ℤ, Bool, true, false, List, [], ◌∷◌, ◌++◌, codes, decimal, Option, Some, None}
use Rattle.position_rank.specs.Placement.{Placement}
use Rattle.position_text.specs.Text.{position_text}
use Rattle.position_board.specs.Boards.{board_told}
use Rattle.roll_table.specs.Rolls.{Dice}
use Rattle.roll_table.specs.Text.{roll_text}
use Rattle.play_text.specs.Notation.{play_text}
use Rattle.directed_fixed.specs.Bounds.{Bounds}
use Rattle.point_text.specs.Decimal.{millionths_up, millionths_text}
use Rattle.cube_actions.specs.declared.name.KindName.{KindName}
use Rattle.cube_text.specs.Texts.{kind_text}
use Rattle.play_analyser.specs.declared.advice.CubeAction.{CubeAction}
use Rattle.play_analyser.specs.declared.advice.CubeAdvice.{CubeAdvice}
use Rattle.play_analyser.specs.declared.ranking.PlayRow.{PlayRow}
use Rattle.play_analyser.specs.declared.ranking.Ranking.{Ranking}
use Rattle.equity_report.specs.Choices.{answer_text, offer_text}
use Rattle.equity_report.specs.Reports.{line, points_text}

-- what is advised, and what it loses at most in points, rounded up
abbrev pub advised_text : List ℕ → List ℕ → ℤ → List ℕ
advised_text word choice bound =
    line word (choice ++ codes " loss " ++ millionths_text (millionths_up bound))

-- ---- plays

-- a play with its number and its pair
abbrev pub ranked_text : Placement → ℕ → PlayRow → List ℕ
ranked_text p number row =
    line (decimal number) (points_text row.pair ++ codes " " ++ play_text p row.entry.play.items)

-- plays with their numbers, from this one on
abbrev pub ranked_texts : Placement → ℕ → List PlayRow → List ℕ
ranked_texts p number [] = []
ranked_texts p number (row ∷ rows) = ranked_text p number row ++ ranked_texts p (suc number) rows

-- the plays of a roll from the best to the worst, and what the best loses at most
abbrev pub ranking_text : (board : Bool) → Placement → Dice → KindName → Ranking → List ℕ
ranking_text board p roll kind ranking =
    board_told board p ++ line (codes "position") (position_text p)
    ++ line (codes "roll") (roll_text roll ++ codes " kind " ++ kind_text kind)
    ++ ranked_texts p 1 ranking.rows.items
    ++ advised_text (codes "best") (codes "1") ranking.loss_bound

-- ---- the cube

-- what rolling is worth after a beaver, where there is one
abbrev pub beaver_text : Option Bounds → List ℕ
beaver_text None = []
beaver_text (Some pair) = line (codes "double-beaver") (points_text pair)

-- the answer to a double that is advised
abbrev pub answer_advised : Option CubeAction → List ℕ
answer_advised None = codes "no cube action\n"
answer_advised (Some action) =
    advised_text (codes "answer") (answer_text action.answer) action.answer_bound

-- what a double leads to, and what is advised
abbrev pub action_text : Option CubeAction → List ℕ
action_text None = codes "no cube action\n"
action_text (Some action) =
    line (codes "double-take") (points_text action.take) ++ beaver_text action.beaver
    ++ line (codes "double-pass") (points_text action.pass)
    ++ advised_text (codes "offer") (offer_text action.offer) action.offer_bound
    ++ answer_advised (Some action)

-- what to do with the cube before a roll
abbrev pub cube_text : (board : Bool) → Placement → KindName → CubeAdvice → List ℕ
cube_text board p kind advice =
    board_told board p ++ line (codes "position") (position_text p)
    ++ line (codes "kind") (kind_text kind)
    ++ line (codes "no-double") (points_text advice.no_double) ++ action_text advice.action

-- the same, for whoever asks whether to take with the answer before it
abbrev pub cube_report : (board take : Bool) → Placement → KindName → CubeAdvice → List ℕ
cube_report board true p kind advice =
    answer_advised advice.action ++ cube_text board p kind advice
cube_report board false p kind advice = cube_text board p kind advice
