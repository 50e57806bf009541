-- A column's turns beside a table of the same game.
use Rattle.std.specs.Prelude.{◌≡◌, ◌≢◌, ◌<◌, ◌+◌, ◌*◌, ℕ, length, slice_index_or}
use Rattle.position_rank.specs.Placement.{Placement}
use Rattle.directed_fixed.specs.Bounds.{Bounds}
use Rattle.cube_actions.specs.Stakes.{Terms, nothing}
use Rattle.turn_rule.specs.Games.{game_of}
use Rattle.turn_rule.specs.States.{AreWithin}
use Rattle.turn_rule.specs.Layouts.{AreLayouts}
use Rattle.column_turns.specs.Columns.{ColumnPairs}
use Rattle.column_turns.specs.Turns.{mover_at, place_in}
use Rattle.plain_table.specs.Tables.{PairTable, words_at}

-- the position with this number in a column
abbrev pub position_at : ColumnPairs → ℕ → Placement
position_at column i = mover_at column.layouts column.other column.movers i

-- the pair of that position's turn in a kind
abbrev pub turn_at : ColumnPairs → ℕ → ℕ → Bounds
turn_at column i k = slice_index_or column.pairs (place_in column.kinds i k) nothing

-- a column of the table's game
pub record IsColumnOver (stakes : Terms) (column : ColumnPairs) (table : PairTable) : Type 0 where
  pub layouts : AreLayouts table.checkers column.layouts
  pub kinds : column.kinds ≡ length stakes.kinds
  pub kinds_too : table.kinds ≡ length stakes.kinds
  pub within : AreWithin (game_of table.checkers stakes) (words_at table)

-- the pairs of all squares but this one are as before
abbrev pub IsSameBut : ℕ → PairTable → PairTable → Type 0
IsSameBut square old new =
    (s k : ℕ) → s ≢ square → k < old.kinds
    → slice_index_or new.pairs (s * old.kinds + k) nothing
    ≡ slice_index_or old.pairs (s * old.kinds + k) nothing
