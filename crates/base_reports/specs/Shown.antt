-- The report on a position in a file of bounds.
use Rattle.std.specs.Prelude.{ℕ, Bool, List, ◌++◌, codes}
use Rattle.std.specs.List.{flat_map}
use Rattle.position_rank.specs.Placement.{Placement}
use Rattle.position_text.specs.Text.{position_text}
use Rattle.position_board.specs.Boards.{board_told}
use Rattle.position_id.specs.Ids.{id_told}
use Rattle.cube_text.specs.Texts.{kind_text}
use Rattle.equity_report.specs.declared.text.GameName.{GameName}
use Rattle.equity_report.specs.Files.{rounds_text}
use Rattle.equity_report.specs.Reports.{line, pair_text}
use Rattle.base_reports.specs.declared.shown.KindRow.{KindRow}

-- a kind with its pair
abbrev pub row_text : KindRow → List ℕ
row_text row = line (kind_text row.kind) (pair_text row.pair)

-- a position, its board and its ID where they are asked for, and its pairs in each kind
abbrev pub shown_text : (board id : Bool) → Placement → GameName → ℕ → List KindRow → List ℕ
shown_text board id p game rounds rows =
    board_told board p ++ line (codes "position") (position_text p) ++ id_told id p
    ++ rounds_text game rounds ++ codes "\n" ++ flat_map row_text rows
