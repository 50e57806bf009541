-- The lines of a record.
use Rattle.std.specs.Prelude.{◌≡◌, ◌≢◌, ℕ, ◌+◌, ◌≤◌, List, [], ◌∷◌, ◌++◌, length, map, All, Some, MatchOption}
use Rattle.roll_table.specs.Rolls.{Dice, IsRoll}
use Rattle.play_text.specs.Notation.{HitsPoint}
use Rattle.game_record.specs.declared.record.RecordStakes.{RecordStakes}
use Rattle.game_record.specs.declared.record.RecordStakes.TheVariants.{Match}
use Rattle.game_record.specs.declared.record.What.{What}
use Rattle.game_record.specs.declared.record.What.TheVariants.{Rolled}
use Rattle.game_record.specs.declared.record.Ending.{Ending}
use Rattle.game_record.specs.declared.record.Ending.TheVariants.{Ended as WasEnded, Stopped as WasStopped}
use Rattle.game_record.specs.declared.record.Game.{Game}
use Rattle.game_record.specs.declared.record.Record.{Record}
use Rattle.game_record.specs.declared.line.Line.{Line}
use Rattle.game_record.specs.declared.line.Line.TheVariants.{Title, Checkers, Stakes, Game as GameLine, Acted, Ended, Stopped, Closed}
use Rattle.game_record.specs.declared.stage.Next.{Next}
use Rattle.game_record.specs.declared.stage.Next.TheVariants.{FirstRoll, Nothing}
use Rattle.game_record.specs.declared.stage.Stage.{Stage}
use Rattle.game_record.specs.Turns.{allowed, kind_of, stage_after, first_stage}

abbrev pub ending_line : Ending → Line
ending_line (WasEnded winner points) = Ended winner points
ending_line WasStopped = Stopped

-- a game's lines, where it has this number
abbrev pub game_lines : ℕ → Game → List Line
game_lines number game =
    GameLine number game.away ∷ map Acted game.actions ++ ending_line game.ending ∷ []

-- the lines of games that are counted from this number
abbrev pub games_lines : ℕ → List Game → List Line
games_lines number [] = []
games_lines number (game ∷ games) = game_lines number game ++ games_lines (number + 1) games

abbrev pub record_lines : Record → List Line
record_lines rec =
    Title ∷ Checkers rec.checkers ∷ Stakes rec.stakes ∷ games_lines 1 rec.games ++ Closed ∷ []

-- a number of at least 1 and at most this
abbrev pub UpTo : ℕ → ℕ → Type 0
UpTo most n = (1 ≤ n) × (n ≤ most)

abbrev pub AreRecordStakes : RecordStakes → Type 0
AreRecordStakes (Match length) = UpTo 5 length
AreRecordStakes _ = Unit {0}

-- a roll that may come: the first of a game is no double
abbrev pub MayCome : Next → Dice → Type 0
MayCome FirstRoll roll = roll.high ≢ roll.low
MayCome next roll = Unit {0}

-- a roll, and at most four steps, of which none hits off the board
abbrev pub IsWrittenPlay : What → Type 0
IsWrittenPlay (Rolled roll written) =
    All HitsPoint written.items × (length written.items ≤ 4) × IsRoll roll
IsWrittenPlay _ = Unit {0}

abbrev pub FitsNext : Next → What → Type 0
FitsNext next (Rolled roll written) = MayCome next roll
FitsNext next _ = Unit {0}

-- the numbers of a line are in range, and a game's is the next
abbrev pub FitsStage : Stage → Line → Type 0
FitsStage stage (Checkers checkers) = UpTo 3 checkers
FitsStage stage (Stakes stakes) = AreRecordStakes stakes
FitsStage stage (GameLine number away) = (number ≡ stage.games + 1)
    × MatchOption away (Unit {0}) (λ needs. UpTo 5 needs.0 × UpTo 5 needs.1)
FitsStage stage (Acted action) = FitsNext stage.next action.what × IsWrittenPlay action.what
FitsStage stage (Ended winner points) = UpTo 3 points
FitsStage stage _ = Unit {0}

-- each of these lines may come where it stands, and they lead from one stage to another
abbrev pub Follow : Stage → List Line → Stage → Type 0
Follow stage [] end = end ≡ stage
Follow stage (line ∷ lines) end = (next : Next)
    × (allowed stage.in_match stage.next (kind_of line) ≡ Some next) × FitsStage stage line
    × Follow (stage_after stage line next) lines end

-- the lines of a record follow each other from the title to the close, and aren't too many
pub record IsRecord (rec : Record) : Type 0 where
  pub end : Stage
  pub follow : Follow first_stage (record_lines rec) end
  pub closed : end.next ≡ Nothing
  pub few : length (record_lines rec) ≤ 65536
