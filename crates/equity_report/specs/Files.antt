-- What reports on files tell of a game and of a file.
use Rattle.std.specs.Prelude.{ℕ, List, ◌++◌, codes}
use Rattle.equity_report.specs.declared.text.GameName.{GameName}
use Rattle.equity_report.specs.Reports.{line, counted_text}
use Rattle.equity_report.specs.Games.{game_text}

-- a game after so many rounds
abbrev pub rounds_text : GameName → ℕ → List ℕ
rounds_text game rounds = game_text game ++ codes " " ++ counted_text (codes "rounds") rounds

-- the file that was written, and its length
abbrev pub written_text : List ℕ → ℕ → List ℕ
written_text file bytes =
    line (codes "file") (file ++ codes " " ++ counted_text (codes "bytes") bytes)
