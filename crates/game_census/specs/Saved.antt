-- What stands in a file that was written of a board.
use Rattle.std.specs.Prelude.{◌≡◌, ◌<◌, ◌*◌, ℕ, List, length}
use Rattle.directed_fixed.specs.declared.bounds.End.{End}
use Rattle.turn_rule.specs.declared.game.Game.{Game}
use Rattle.interval_words.specs.declared.view.View.{View}
use Rattle.interval_words.specs.Numbers.{value_in, word_of}
use Rattle.interval_words.specs.Seats.{WasHeld}
use Rattle.interval_words.specs.WordLists.{AreRight, list_of, states_of}
use Rattle.word_pages.specs.declared.version.Version.TheVariants.{Three}
use Rattle.outside_log.specs.Log.{Event}
use Rattle.outside_log.specs.Readings.{WritesFile}
use Rattle.cube_actions.specs.declared.name.StakesName.TheVariants.{Unlimited}
use Rattle.base_head.specs.Heads.{FileHead, no_starts}
use Rattle.database_file.specs.Texts.{file_text, game_in}
use Rattle.game_census.specs.declared.task.WidthsTask.{WidthsTask}

-- this word of a state stood on a board of the game, at a moment at which some view stood
abbrev pub WasRead : Game → List ℕ → End → ℕ → Type 0
WasRead game list end state =
    (view : View) × WasHeld game view (word_of end state) (value_in list end state)

-- the list has both words of each of the first so many states, and each stood on a board of the game
pub record WereRead (game : Game) (many : ℕ) (list : List ℕ) : Type 0 where
  pub long : length list ≡ 2 * many
  pub each : (end : End) (state : ℕ) → state < many → WasRead game list end state

-- a file was written with the text of this head and of words that are right, each of which stood on a board of the head's game
pub record IsSaved (head : FileHead) (name : List ℕ) (before after : List Event) : Type 0 where
  pub list : List ℕ
  pub read : WereRead (game_in head) (states_of (game_in head)) list
  pub right : AreRight (list_of (game_in head) head.rounds list)
  pub text : WritesFile name (file_text Three head list) before after

-- the head of the file that a task asks for
abbrev pub head_asked : WidthsTask → FileHead
head_asked task = record {
  checkers = task.checkers;
  name = Unlimited task.rule;
  rounds = task.rounds;
  starts = no_starts;
}
