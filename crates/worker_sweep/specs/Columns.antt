-- A column's pairs that are brought to a board.
use Rattle.std.specs.Prelude.{◌≡◌, ◌+◌, ◌<◌, ℕ, length}
use Rattle.directed_fixed.specs.declared.bounds.End.{End}
use Rattle.directed_fixed.specs.Bounds.{IsNoLooser}
use Rattle.position_rank.specs.Placement.{Placement}
use Rattle.turn_rule.specs.declared.game.Game.{Game}
use Rattle.turn_rule.specs.Games.{kinds_of}
use Rattle.turn_rule.specs.Turn.{rounds}
use Rattle.turn_rule.specs.States.{IsState}
use Rattle.column_turns.specs.Columns.{ColumnPairs, pair_in, position_in}
use Rattle.interval_words.specs.declared.view.View.{View}
use Rattle.interval_words.specs.Core.{noted}
use Rattle.worker_sweep.specs.Blocks.{MaySweep}

-- each of the column's positions is a state in each kind, and a seat may bring its pair
pub record MayBringColumn (game : Game) (view : View) (column : ColumnPairs) : Type 0 where
  pub states : (i k : ℕ) → i < length column.movers → k < kinds_of game
      → IsState game (position_in column i) k
  pub pairs : (i k : ℕ) → i < length column.movers → k < kinds_of game
      → MaySweep game view (position_in column i) k (pair_in column i k)

-- what a seat notes of a position's first kinds is at least as tight as after one round more than its base
abbrev pub AreNotedTo : Game → View → Placement → ℕ → Type 0
AreNotedTo game view p count = (end : End) (k : ℕ) → k < count
    → IsNoLooser end (noted game view.notes end p k) (rounds game.stakes (view.base + 1) end p k)
