-- A record that is read line by line.
use Rattle.std.specs.Prelude.{◌≡◌, ℕ, ◌+◌, ◌≤◌, List, [], ◌∷◌, ◌++◌, length, map, Some}
use Rattle.game_record.specs.declared.record.Ending.TheVariants.{Ended as WasEnded, Stopped as WasStopped}
use Rattle.game_record.specs.declared.record.Ending.{Ending}
use Rattle.game_record.specs.declared.record.Game.{Game}
use Rattle.game_record.specs.declared.record.Record.{Record}
use Rattle.record_text.specs.declared.draft.Draft.{Draft}
use Rattle.game_record.specs.declared.line.Line.{Line}
use Rattle.game_record.specs.declared.line.Line.TheVariants.{Title as TitleLine, Checkers as CheckersLine, Stakes as StakesLine, Game as GameLine, Acted, Ended, Stopped, Closed}
use Rattle.game_record.specs.declared.stage.Next.{Next}
use Rattle.game_record.specs.declared.stage.Next.TheVariants.{Title, Checkers, Stakes, FirstGame, NextGame, Close, Nothing}
use Rattle.game_record.specs.declared.stage.Stage.{Stage}
use Rattle.game_record.specs.Turns.{allowed, kind_of, stage_after, first_stage}
use Rattle.game_record.specs.Lines.{games_lines, FitsStage, Follow}
use Rattle.record_text.specs.Texts.{line_text, lines_text}

-- the game that is being read, with this ending
abbrev pub ended_game : Draft → Ending → Game
ended_game draft ending = record { away = draft.away; actions = draft.actions; ending = ending }

-- what is read with one more line
abbrev pub added : Draft → Line → Draft
added draft TitleLine = draft
added draft (CheckersLine checkers) = record draft { checkers = checkers }
added draft (StakesLine stakes) = record draft { stakes = stakes }
added draft (GameLine number away) = record draft { away = away }
added draft (Acted action) = record draft { actions = draft.actions ++ action ∷ [] }
added draft (Ended winner points) = record draft {
  games = draft.games ++ ended_game draft (WasEnded winner points) ∷ [];
  actions = [];
}
added draft Stopped = record draft {
  games = draft.games ++ ended_game draft WasStopped ∷ [];
  actions = [];
}
added draft Closed = draft

-- the lines of all games that are over, and those before
abbrev pub lines_between : Draft → List Line
lines_between draft =
    TitleLine ∷ CheckersLine draft.checkers ∷ StakesLine draft.stakes ∷ games_lines 1 draft.games

-- and those of the game of this number, which isn't
abbrev pub lines_within : ℕ → Draft → List Line
lines_within number draft =
    lines_between draft ++ GameLine number draft.away ∷ map Acted draft.actions

-- the lines that were read where this may come next, and so many games have begun
abbrev pub lines_read : Next → ℕ → Draft → List Line
lines_read Title games draft = []
lines_read Checkers games draft = TitleLine ∷ []
lines_read Stakes games draft = TitleLine ∷ CheckersLine draft.checkers ∷ []
lines_read FirstGame games draft = lines_between draft
lines_read NextGame games draft = lines_between draft
lines_read Close games draft = lines_between draft
lines_read Nothing games draft = lines_between draft ++ Closed ∷ []
lines_read _ games draft = lines_within games draft

-- how many games have been read where so many have begun
abbrev pub Counts : Next → ℕ → Draft → Type 0
Counts Title games draft = (games ≡ 0) × (draft.games ≡ []) × (draft.actions ≡ [])
Counts Checkers games draft = (games ≡ 0) × (draft.games ≡ []) × (draft.actions ≡ [])
Counts Stakes games draft = (games ≡ 0) × (draft.games ≡ []) × (draft.actions ≡ [])
Counts FirstGame games draft = (games ≡ length draft.games) × (draft.actions ≡ [])
Counts NextGame games draft = (games ≡ length draft.games) × (draft.actions ≡ [])
Counts Close games draft = Unit {0}
Counts Nothing games draft = Unit {0}
Counts _ games draft = games ≡ length draft.games + 1

-- a line was read and added
pub record TakesLine (stage : Stage) (draft : Draft) (text : List ℕ) (new_stage : Stage)
    (new_draft : Draft) : Type 0 where
  pub line : Line
  pub next : Next
  pub comes : allowed stage.in_match stage.next (kind_of line) ≡ Some next
  pub fits : FitsStage stage line
  pub says : text ≡ line_text line
  pub stage_is : new_stage ≡ stage_after stage line next
  pub draft_is : new_draft ≡ added draft line

abbrev pub record_of : Draft → Record
record_of draft = record { checkers = draft.checkers; stakes = draft.stakes; games = draft.games }

-- what has been read of a text, up to this line number and what is left
pub record ReadsLines (text : List ℕ) (stage : Stage) (draft : Draft) (number : ℕ)
    (rest : List ℕ) : Type 0 where
  pub follow : Follow first_stage (lines_read stage.next stage.games draft) stage
  pub counts : Counts stage.next stage.games draft
  pub parts : text ≡ lines_text (lines_read stage.next stage.games draft) ++ rest
  pub count : number ≡ length (lines_read stage.next stage.games draft) + 1
  pub room : number + length rest ≤ length text + 1
  pub games : stage.games + 1 ≤ number
