-- How the code that makes a record keeps where it is.
use Rattle.std.specs.Prelude.{◌≡◌, ◌≤◌, ℕ, ◌+◌, ◌*◌, nat_lt, Bool, not, ◌&&◌, Option, Some, None}
use Rattle.game_record.specs.declared.progress.Win.{Win}
use Rattle.game_record.specs.declared.record.Action.{Action}
use Rattle.game_record.specs.declared.record.Ending.{Ending}
use Rattle.game_record.specs.declared.record.Record.{Record}
use Rattle.game_record.specs.declared.record.Ending.TheVariants.{Ended, Stopped}
use Rattle.game_record.specs.Games.{is_over}
use Rattle.record_maker.specs.declared.due.Due.{Due}
use Rattle.record_maker.specs.declared.due.Due.TheVariants.{Start, Turn, Answer, Roll, Nothing}
use Rattle.record_maker.specs.declared.state.Maker.{Maker}
use Rattle.record_maker.specs.declared.size.Size.{Size}
use Rattle.record_maker.specs.Making.{IsDone, IsMade, Moment, Sheet, deed_line, due_after, is_turn}
use Rattle.record_maker.specs.Sizes.{is_full, with_line}

-- where the code is in a game, as this is due
abbrev pub moment_at : Maker → Due → Moment
moment_at maker due =
    record { size = maker.size; due = due; game = maker.game; words = maker.words }

-- and before a game, where so many were made
abbrev pub sheet_of : Maker → ℕ → Sheet
sheet_of maker games = record { size = maker.size; games = games; words = maker.words }

-- so many lines may stand behind the last place where there wasn't too much text
abbrev pub HasLinesLeft : ℕ → Size → Type 0
HasLinesLeft behind size =
    (size.lines ≤ 60000 + behind) × (size.bytes ≤ 1000000 + 60 * (behind + 1))

abbrev pub behind : Due → ℕ
behind Start = 0
behind (Turn player) = 2
behind (Answer player) = 0
behind (Roll player) = 1
behind Nothing = 2

-- a player has done what was due
pub record HasDoneDue (old : Maker) (due : Due) (action : Action) (new : Maker) : Type 0 where
  pub done : IsDone due (moment_at old due) action.player action.what
      (moment_at new (due_after action.player action.what))
  pub size : new.size ≡ with_line old.size (deed_line action)
  pub short : new.size.bytes ≤ old.size.bytes + 60

-- the game is not over, and no turn comes where there is too much text
abbrev pub is_unfinished : Moment → Bool
is_unfinished now = not (is_over now.game) && not (is_turn now.due && is_full now.size)

abbrev pub ending_of : Option Win → Ending
ending_of (Some win) = Ended win.winner win.points
ending_of None = Stopped

-- fewer games were made than are wanted, and there isn't too much text
abbrev pub makes_another : ℕ → ℕ → Size → Bool
makes_another made wanted size = nat_lt made wanted && not (is_full size)

-- the record of a number and a count of games, with room for its close
pub record IsDrawn (number count : ℕ) (rec : Record) : Type 0 where
  pub made : IsMade number count rec
  pub room : HasLinesLeft 3 made.end.size
