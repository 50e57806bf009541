-- The rule of a board's table, and what each kind of step tells.
use Rattle.std.specs.Prelude.{◌≡◌, ℕ, Some}
use Rattle.atomic_table.specs.Table.{State, Me, Step}
use Rattle.turn_rule.specs.declared.game.Game.{Game}
use Rattle.interval_words.specs.declared.view.View.{View}
use Rattle.interval_words.specs.Numbers.{value_of}
use Rattle.interval_words.specs.Core.{Core, IsKept, with_note, brought, settled}
use Rattle.interval_words.specs.Seats.{Knows, WasHeld}

-- a table's words and views are a core
abbrev pub core_of : Game → State (Unit {0}) View → Core
core_of game state = record { game = game; words = state.words; views = state.views }

abbrev pub Holds : Game → State (Unit {0}) View → Type 0
Holds game state = IsKept (core_of game state)

-- the value found is noted, and the word held it
abbrev pub ReadsWord : Step (Unit {0}) → Me (Unit {0}) View → ℕ → Me (Unit {0}) View → Type 0
ReadsWord step old found new =
    (new ≡ (with_note old.0 step.word (value_of found), old.1))
    × Knows new.0
    × ((game : Game) → old.0.game ≡ Some game → WasHeld game old.0 step.word (value_of found))

-- the value brought is noted, and so is the work
abbrev pub Tightens : Step (Unit {0}) → Me (Unit {0}) View → ℕ → Me (Unit {0}) View → Type 0
Tightens step old found new =
    (new ≡ (brought old.0 step.word (value_of step.first), old.1)) × Knows new.0

-- a round more is known
abbrev pub SettlesWord : Step (Unit {0}) → Me (Unit {0}) View → ℕ → Me (Unit {0}) View → Type 0
SettlesWord step old found new = (new ≡ (settled old.0, old.1)) × Knows new.0
