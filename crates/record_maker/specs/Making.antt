-- How a record is made, action by action and game by game, from the words of a generator.
use Rattle.std.specs.Prelude.{◌≡◌, ◌≤◌, ◌⊎◌, ℕ, ◌+◌, ◌%◌, Bool, true, false, List, [], ◌∷◌, ◌++◌, codes, decimal, Some, None, if◌then◌else◌}
use Rattle.rand_pcg.specs.Lcg.{Lcg}
use Rattle.play_text.specs.Notation.{IsPlayText, play_text}
use Rattle.move_rules.specs.declared.play.Entry.{Entry}
use Rattle.roll_table.specs.Rolls.{Dice}
use Rattle.cube_actions.specs.declared.action.Answer.TheVariants.{Take, Pass}
use Rattle.game_record.specs.declared.player.Player.{Player}
use Rattle.game_record.specs.declared.progress.Progress.{Progress}
use Rattle.game_record.specs.declared.record.Action.{Action}
use Rattle.game_record.specs.declared.record.Ending.{Ending}
use Rattle.game_record.specs.declared.record.Ending.TheVariants.{Ended, Stopped}
use Rattle.game_record.specs.declared.record.Game.{Game}
use Rattle.game_record.specs.declared.record.Record.{Record}
use Rattle.cube_actions.specs.declared.name.MoneyRule.TheVariants.{Jacoby}
use Rattle.game_record.specs.declared.record.RecordStakes.TheVariants.{Unlimited}
use Rattle.game_record.specs.declared.record.What.{What}
use Rattle.game_record.specs.declared.record.What.TheVariants.{Rolled, Doubled, Took, Passed, Beavered}
use Rattle.game_record.specs.Games.{after_answer, game_after_double, game_after_play, is_over, may_double, opening}
use Rattle.game_record.specs.Turns.{other_player, player_text}
use Rattle.record_text.specs.Texts.{deed_text}
use Rattle.game_record.specs.Standings.{first_standing}
use Rattle.record_maker.specs.declared.due.Due.{Due}
use Rattle.record_maker.specs.declared.due.Due.TheVariants.{Start, Turn, Answer, Roll, Nothing}
use Rattle.record_maker.specs.declared.size.Size.{Size}
use Rattle.record_maker.specs.Draws.{IsChosen, rest, start_drawn, two_dice, word, drawn_words}
use Rattle.record_maker.specs.Sizes.{is_full, empty_size, with_line}

-- a moment of a game that is made: how much text there is, what is due, how the game stands, and which words come
pub record Moment : Type 0 where
  pub size : Size
  pub due : Due
  pub game : Progress
  pub words : Lcg

-- ---- what players do

-- he plays a roll: a word chooses the play, which is written as it is printed
abbrev pub Plays : Progress → Player → Dice → Lcg → What → Moment → Type 0
Plays game player roll words (Rolled told written) next =
    (told ≡ roll) × (entry : Entry)
    × IsChosen game.position roll (word words) entry
    × IsPlayText (play_text game.position entry.play.items) written.items
    × (next.game ≡ game_after_play (Unlimited Jacoby) player entry.end game)
    × (next.words ≡ rest words)
Plays game player roll words _ next = ⊥

-- he rolls two dice and plays them
abbrev pub Rolls : Progress → Player → Lcg → What → Moment → Type 0
Rolls game player words what next =
    Plays game player (two_dice words).0 (two_dice words).1 what next

-- he may double: the first play was made, and the cube is centred or his
abbrev pub has_cube : Progress → Player → Bool
has_cube game player = may_double (Unlimited Jacoby) (first_standing (Unlimited Jacoby)) player game

-- where a player may double, he does by a word that is a multiple of 8
abbrev pub Doubles : Moment → Player → Type 0
Doubles now player = (has_cube now.game player ≡ true) × (word now.words % 8 ≡ 0)

-- no word is drawn where he may not
abbrev pub undoubled_words : Moment → Player → Lcg
undoubled_words now player = if has_cube now.game player then rest now.words else now.words

-- a player doubles or rolls
abbrev pub TakesTurn : Moment → Player → What → Moment → Type 0
TakesTurn now player Doubled next =
    Doubles now player × (next.game ≡ game_after_double now.game) × (next.words ≡ rest now.words)
TakesTurn now player what next =
    (Doubles now player → ⊥) × Rolls now.game player (undoubled_words now player) what next

-- he takes by an even word and passes by an odd one
abbrev pub IsDrawnAnswer : Moment → Player → What → Moment → Type 0
IsDrawnAnswer now player Took next =
    (word now.words % 2 ≡ 0) × (next.game ≡ after_answer player Take now.game)
    × (next.words ≡ rest now.words)
IsDrawnAnswer now player Passed next =
    (word now.words % 2 ≡ 1) × (next.game ≡ after_answer player Pass now.game)
    × (next.words ≡ rest now.words)
IsDrawnAnswer now player _ next = ⊥

-- a player does what he is to do
abbrev pub IsDone : Due → Moment → Player → What → Moment → Type 0
IsDone Start now player what next =
    (player ≡ (start_drawn now.words).player)
    × Plays now.game player (start_drawn now.words).roll (start_drawn now.words).after what next
IsDone (Turn asked) now player what next = (player ≡ asked) × TakesTurn now player what next
IsDone (Answer asked) now player what next = (player ≡ asked) × IsDrawnAnswer now player what next
IsDone (Roll asked) now player what next =
    (player ≡ asked) × Rolls now.game player now.words what next
IsDone _ now player what next = ⊥

-- each turn but a game's first is measured before
abbrev pub is_turn : Due → Bool
is_turn (Turn player) = true
is_turn _ = false

-- what is due once a player has done this
abbrev pub due_after : Player → What → Due
due_after player (Rolled roll written) = Turn (other_player player)
due_after player Doubled = Answer (other_player player)
due_after player Took = Roll (other_player player)
due_after player Passed = Nothing
due_after player Beavered = Roll (other_player player)

-- ---- lines

abbrev pub deed_line : Action → List ℕ
deed_line action = player_text action.player ++ codes " " ++ deed_text action.what

abbrev pub ending_text : Ending → List ℕ
ending_text (Ended winner points) =
    codes "end " ++ player_text winner ++ codes " " ++ decimal points
ending_text Stopped = codes "stop"

abbrev pub game_line_text : ℕ → List ℕ
game_line_text number = codes "game " ++ decimal number

-- ---- actions

-- an action of a game that goes on, from one moment to the next
pub record DoesAct (now : Moment) (action : Action) (next : Moment) : Type 0 where
  pub going : is_over now.game ≡ false
  pub room : is_turn now.due ≡ true → is_full now.size ≡ false
  pub done : IsDone now.due now action.player action.what next
  pub due : next.due ≡ due_after action.player action.what
  pub size : next.size ≡ with_line now.size (deed_line action)

-- actions, one after another
abbrev pub AllDo : Moment → List Action → Moment → Type 0
AllDo now [] end = end ≡ now
AllDo now (action ∷ actions) end =
    (next : Moment) × DoesAct now action next × AllDo next actions end

-- a game ends as it is won, and is left before a turn where there is too much text
abbrev pub IsEnd : Moment → Ending → Type 0
IsEnd now (Ended winner points) = now.game.won ≡ Some (record { winner = winner; points = points })
IsEnd now Stopped =
    (is_over now.game ≡ false) × (is_turn now.due ≡ true) × (is_full now.size ≡ true)

-- ---- games

-- before a game: how much text there is, how many games were made, and which words come
pub record Sheet : Type 0 where
  pub size : Size
  pub games : ℕ
  pub words : Lcg

-- the board is set up for one checker a side
abbrev pub begun : Sheet → Moment
begun sheet = record {
  size = with_line sheet.size (game_line_text (sheet.games + 1));
  due = Start;
  game = opening 1;
  words = sheet.words;
}

-- a game is made, where there isn't too much text
pub record AddsGame (sheet : Sheet) (game : Game) (next : Sheet) : Type 0 where
  pub room : is_full sheet.size ≡ false
  pub away : game.away ≡ None
  pub end : Moment
  pub acts : AllDo (begun sheet) game.actions end
  pub ends : IsEnd end game.ending
  pub size : next.size ≡ with_line end.size (ending_text game.ending)
  pub games : next.games ≡ sheet.games + 1
  pub words : next.words ≡ end.words

-- games, one after another
abbrev pub AllMade : Sheet → List Game → Sheet → Type 0
AllMade sheet [] end = end ≡ sheet
AllMade sheet (game ∷ games) end =
    (next : Sheet) × AddsGame sheet game next × AllMade next games end

-- behind the lines of the title, of one checker a side and of the Jacoby rule
abbrev pub first_sheet : ℕ → Sheet
first_sheet number = record {
  size = with_line (with_line (with_line empty_size (codes "hypergammon record 1"))
      (codes "checkers 1")) (codes "stakes jacoby");
  games = 0;
  words = drawn_words number;
}

-- there are so many games, or fewer where there is too much text
abbrev pub IsLast : ℕ → Sheet → Type 0
IsLast count end = (end.games ≡ count) ⊎ ((end.games ≤ count) × (is_full end.size ≡ true))

-- the record of a number and a count of games
pub record IsMade (number count : ℕ) (rec : Record) : Type 0 where
  pub checkers : rec.checkers ≡ 1
  pub stakes : rec.stakes ≡ Unlimited Jacoby
  pub end : Sheet
  pub games : AllMade (first_sheet number) rec.games end
  pub last : IsLast count end
