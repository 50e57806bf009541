-- A column's pairs, and the room in which they are worked out.
use Rattle.std.specs.Prelude.{◌≡◌, ◌≤◌, ◌*◌, ◌^◌, ℕ, ℤ, pos, All, List, length, slice_index_or, sum}
use Rattle.position_rank.specs.Placement.{IsLayout, Placement}
use Rattle.position_rank.specs.Ranks.{rank_of}
use Rattle.directed_fixed.specs.Bounds.{Bounds, IsWithinUnits}
use Rattle.cube_actions.specs.Stakes.{nothing}
use Rattle.turn_rule.specs.declared.game.Game.{Game}
use Rattle.turn_rule.specs.Games.{kinds_of}
use Rattle.turn_rule.specs.Layouts.{AreLayouts}
use Rattle.column_sums.specs.declared.best.Bests.{Bests}
use Rattle.column_sums.specs.declared.best.Worths.{Worths}
use Rattle.column_turns.specs.Rows.{AreRows}
use Rattle.column_turns.specs.Turns.{mover_at, place_in, ArePointsOf}

-- The layouts of a game's checkers and how many kinds it has, the layout of the other side in the column, the ranks of its movers, and a pair
-- for each of them in each kind.
pub record ColumnPairs : Type 0 where
  pub layouts : List (List ℕ)
  pub kinds : ℕ
  pub other : List ℕ
  pub movers : List ℕ
  pub pairs : List Bounds

-- room for the columns of a game: all its layouts are at hand, and it has the game's kinds
pub record IsRoomOf (game : Game) (column : ColumnPairs) : Type 0 where
  pub layouts : AreLayouts game.checkers column.layouts
  pub kinds : column.kinds ≡ kinds_of game

-- one of the column's positions
abbrev pub position_in : ColumnPairs → ℕ → Placement
position_in column i = mover_at column.layouts column.other column.movers i

-- the pair of one of them in a kind
abbrev pub pair_in : ColumnPairs → ℕ → ℕ → Bounds
pair_in column i k = slice_index_or column.pairs (place_in column.kinds i k) nothing

-- there is room for a value of each layout in each kind
pub record HasRoom (layouts : List (List ℕ)) (kinds : ℕ) (sums : List ℤ) : Type 0 where
  pub many : length sums ≡ length layouts * kinds
  pub small : All (IsWithinUnits (pos (2 ^ 42))) sums

-- the points of these layouts, and room for a value of each and for one of each in each kind
pub record HasRoomFor (layouts : List (List ℕ)) (kinds capacity : ℕ) (bits : List ℕ)
    (sums : List Worths) (low high : List ℤ) (turns : List Bounds)
    (cells : List (List Bests)) : Type 0 where
  pub points : ArePointsOf layouts bits
  pub movers : length layouts ≤ capacity
  pub one : length sums ≡ length layouts
  pub lower : HasRoom layouts kinds low
  pub upper : HasRoom layouts kinds high
  pub pairs : length turns ≡ length layouts * kinds
  pub rows : AreRows kinds cells

-- a column of a game of so many checkers, with room for its movers, its sums and its pairs
pub record IsColumn (checkers rank capacity : ℕ) (bits : List ℕ) (column : ColumnPairs)
    (cells : List (List Bests)) (one : List Worths) (lower upper : List ℤ) : Type 0 where
  pub low : 1 ≤ checkers
  pub high : checkers ≤ 3
  pub kinds : column.kinds ≤ 14
  pub all : AreLayouts checkers column.layouts
  pub few : length column.layouts ≤ 3276
  pub valid : IsLayout column.other
  pub many : sum column.other ≡ checkers
  pub ranked : rank_of column.other ≡ rank
  pub points : ArePointsOf column.layouts bits
  pub room : length column.layouts ≤ capacity
  pub rows : AreRows column.kinds cells
  pub room_one : length column.layouts ≤ length one
  pub room_lower : HasRoom column.layouts column.kinds lower
  pub room_upper : HasRoom column.layouts column.kinds upper
  pub pairs : length column.pairs ≡ length column.layouts * column.kinds
