-- In which order the lines of a record come.
use Rattle.std.specs.Prelude.{ℕ, ◌+◌, List, codes, Bool, true, false, not, is_some, Option, Some, None, if◌then◌else◌}
use Rattle.game_record.specs.declared.player.Player.{Player}
use Rattle.game_record.specs.declared.player.Player.TheVariants.{A, B}
use Rattle.game_record.specs.declared.record.RecordStakes.{RecordStakes}
use Rattle.game_record.specs.declared.record.RecordStakes.TheVariants.{Match}
use Rattle.game_record.specs.declared.record.What.{What}
use Rattle.game_record.specs.declared.record.What.TheVariants.{Rolled, Doubled, Took, Passed, Beavered}
use Rattle.game_record.specs.declared.line.Line.{Line}
use Rattle.game_record.specs.declared.line.Line.TheVariants.{Title as TitleLine, Checkers as CheckersLine, Stakes as StakesLine, Game as GameLine, Acted, Ended, Stopped, Closed}
use Rattle.game_record.specs.declared.line.LineKind.{LineKind}
use Rattle.game_record.specs.declared.line.LineKind.TheVariants.{OfTitle, OfCheckers, OfStakes, OfGame, OfRoll, OfDouble, OfTake, OfPass, OfEnd, OfStop, OfClose}
use Rattle.game_record.specs.declared.stage.Next.{Next}
use Rattle.game_record.specs.declared.stage.Next.TheVariants.{Title, Checkers, Stakes, FirstGame, FirstRoll, Turn, Answer, Roll, End, NextGame, Close, Nothing}
use Rattle.game_record.specs.declared.stage.Stage.{Stage}

-- the one against whom a player plays
abbrev pub other_player : Player → Player
other_player A = B
other_player B = A

abbrev pub same_player : Player → Player → Bool
same_player A A = true
same_player B B = true
same_player _ _ = false

abbrev pub player_text : Player → List ℕ
player_text A = codes "A"
player_text B = codes "B"

-- what comes next, where it is this player's turn
abbrev pub on_turn : Player → Player → Next → Option Next
on_turn player other next = if same_player player other then Some next else None

-- a game's line, with `away` exactly where the stakes are a match
abbrev pub on_game : Bool → Bool → Option Next
on_game in_match away = if (if in_match then away else not away) then Some FirstRoll else None

-- what may come after a line of this kind, where it may come itself
abbrev pub allowed : Bool → Next → LineKind → Option Next
allowed in_match Title OfTitle = Some Checkers
allowed in_match Checkers OfCheckers = Some Stakes
allowed in_match Stakes OfStakes = Some FirstGame
allowed in_match FirstGame (OfGame away) = on_game in_match away
allowed in_match FirstRoll (OfRoll player) = Some (Turn (other_player player))
allowed in_match (Turn player) (OfRoll other) = on_turn player other (Turn (other_player other))
allowed in_match (Turn player) (OfDouble other) = on_turn player other (Answer (other_player other))
allowed in_match (Turn player) OfEnd = Some NextGame
allowed in_match (Turn player) OfStop = Some Close
allowed in_match (Answer player) (OfTake other) = on_turn player other (Roll (other_player other))
allowed in_match (Answer player) (OfPass other) = on_turn player other End
allowed in_match (Roll player) (OfRoll other) = on_turn player other (Turn (other_player other))
allowed in_match (Roll player) OfStop = Some Close
allowed in_match End OfEnd = Some NextGame
allowed in_match NextGame (OfGame away) = on_game in_match away
allowed in_match NextGame OfClose = Some Nothing
allowed in_match Close OfClose = Some Nothing
allowed _ _ _ = None

-- a game has begun and isn't over
abbrev pub IsInGame : Next → Type 0
IsInGame FirstRoll = Unit {0}
IsInGame (Turn player) = Unit {0}
IsInGame (Answer player) = Unit {0}
IsInGame (Roll player) = Unit {0}
IsInGame End = Unit {0}
IsInGame _ = ⊥

abbrev pub kind_of_deed : Player → What → LineKind
kind_of_deed player (Rolled roll written) = OfRoll player
kind_of_deed player Doubled = OfDouble player
kind_of_deed player Took = OfTake player
kind_of_deed player Passed = OfPass player
kind_of_deed player Beavered = OfTake player

abbrev pub kind_of : Line → LineKind
kind_of TitleLine = OfTitle
kind_of (CheckersLine checkers) = OfCheckers
kind_of (StakesLine stakes) = OfStakes
kind_of (GameLine number away) = OfGame (is_some away)
kind_of (Acted action) = kind_of_deed action.player action.what
kind_of (Ended winner points) = OfEnd
kind_of Stopped = OfStop
kind_of Closed = OfClose

-- the stakes are a match
abbrev pub has_match : RecordStakes → Bool
has_match (Match length) = true
has_match _ = false

-- how far a record has come with a line, after which this may come
abbrev pub stage_after : Stage → Line → Next → Stage
stage_after stage (StakesLine stakes) next = record stage {
  next = next;
  in_match = has_match stakes;
}
stage_after stage (GameLine number away) next = record stage {
  next = next;
  games = stage.games + 1;
}
stage_after stage line next = record stage { next = next }

-- before the first line
abbrev pub first_stage : Stage
first_stage = record { next = Title; in_match = false; games = 0 }
