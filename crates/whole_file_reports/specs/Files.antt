-- The reports on a file of bounds as a whole: of its words, and of writing it anew.
use Rattle.std.specs.Prelude.{ℕ, List, ◌++◌, codes}
use Rattle.equity_report.specs.declared.text.GameName.{GameName}
use Rattle.equity_report.specs.Files.{rounds_text, written_text}
use Rattle.equity_report.specs.Reports.{line, counted_text}

-- a file that was written anew
abbrev pub migrated_text : GameName → ℕ → List ℕ → ℕ → List ℕ
migrated_text game rounds file bytes =
    line (codes "migrated") (rounds_text game rounds) ++ written_text file bytes

-- a file whose words are consistent, and how many positions its game has
abbrev pub verified_text : GameName → ℕ → ℕ → List ℕ
verified_text game rounds positions = line (codes "consistent")
    (rounds_text game rounds ++ codes " " ++ counted_text (codes "positions") positions)
