-- A board, and seats at it.
use Rattle.std.specs.Prelude.{◌≡◌, ◌<◌, ◌^◌, ℕ, ℤ, List, ◌++◌, All, Some, slice_index}
use Rattle.std.specs.List.{Contains}
use Rattle.position_rank.specs.Placement.{Placement}
use Rattle.atomic_table.specs.Seated.{TableId}
use Rattle.directed_fixed.specs.declared.bounds.End.{End}
use Rattle.directed_fixed.specs.Bounds.{IsNoLooser}
use Rattle.turn_rule.specs.Games.{IsGame, kinds_of}
use Rattle.turn_rule.specs.States.{IsState, AreWithin, AreNoLooser}
use Rattle.turn_rule.specs.declared.game.Game.{Game}
use Rattle.interval_words.specs.declared.view.Note.{Note}
use Rattle.interval_words.specs.declared.view.View.{View}
use Rattle.interval_words.specs.declared.view.Work.{Work}
use Rattle.interval_words.specs.Numbers.{state_of, word_of, value_of}
use Rattle.interval_words.specs.Core.{IsKept, AreReached, words_in, noted, first_view, with_note, brought, without_work, without_hand, hired, settled, joined}
use Rattle.interval_words.specs.Events.{IsLoose}

-- a board: which table it is, and its game
pub record GameTable : Type 0 where
  pub table : TableId
  pub game : Game

-- a seat: the table that it is at, and what it knows
pub record GameSeat : Type 0 where
  pub table : TableId
  pub view : View

-- the seat is at this board, and its view is of the board's game
pub record SitsAt (board : GameTable) (seat : GameSeat) : Type 0 where
  pub table : seat.table ≡ board.table
  pub game : seat.view.game ≡ Some board.game

-- the first seat at a board
abbrev pub first_seat : GameTable → GameSeat
first_seat board = record { table = board.table; view = first_view board.game }

-- the seat with one note more
abbrev pub noting : GameSeat → ℕ → ℤ → GameSeat
noting seat word value = record seat { view = with_note seat.view word value }

-- the seat after it brought a word a value
abbrev pub bringing : GameSeat → ℕ → ℤ → GameSeat
bringing seat word value = record seat { view = brought seat.view word value }

-- a seat that knows the same, and has no hand and no work
abbrev pub knowing : GameSeat → GameSeat
knowing seat = record seat { view = without_work seat.view }

-- a seat that handed over a hand, and one that knows the same and got it
abbrev pub giving : GameSeat → GameSeat
giving seat = record seat { view = without_hand seat.view }

abbrev pub hiring : GameSeat → GameSeat
hiring seat = record seat { view = hired seat.view }

-- the seat after one round more
abbrev pub settling : GameSeat → GameSeat
settling seat = record seat { view = settled seat.view }

-- the seat that took in another
abbrev pub joining : GameSeat → GameSeat → GameSeat
joining seat other = record seat { view = joined seat.view other.view }

-- the seat is at the same table, of the same game, base and hands, and no note is lost
pub record KeepsNotes (old new : GameSeat) : Type 0 where
  pub table : new.table ≡ old.table
  pub game : new.view.game ≡ old.view.game
  pub base : new.view.base ≡ old.view.base
  pub hands : new.view.hands ≡ old.view.hands
  pub notes :
      (game : Game) → old.view.game ≡ Some game
      → AreNoLooser game (noted game new.view.notes) (noted game old.view.notes)

-- work was added in front, all of which is such
pub record AddsWork (Such : Work → Type 0) (old new : List Work) : Type 0 where
  pub added : List Work
  pub front : new ≡ added ++ old
  pub each : All Such added

-- A value was brought to a word of a state: the seat keeps its notes, and knows the word to be at least as tight as the value. All work that is
-- new is on this word, after the rounds of the seat's base.
pub record Brings (end : End) (game : Game) (state : ℕ) (value : ℤ)
    (old new : GameSeat) : Type 0 where
  pub keeps : KeepsNotes old new
  pub told :
      (p : Placement) (k : ℕ) → state ≡ state_of (kinds_of game) p k
      → IsNoLooser end (noted game new.view.notes end p k) value
  pub work : AddsWork (λ work. work ≡ record { word = word_of end state; base = old.view.base })
      old.view.work new.view.work

-- this is the number of a state of the game
pub record IsNumber (game : Game) (state : ℕ) : Type 0 where
  pub position : Placement
  pub kind : ℕ
  pub is : IsState game position kind
  pub number : state ≡ state_of (kinds_of game) position kind

-- this is the number of a state, for which the view may bring the value: it has a hand, and the value is within the bound, and no tighter than the
-- turn over what the notes tell
pub record MayTighten (end : End) (game : Game) (view : View) (state : ℕ) (value : ℤ) : Type 0 where
  pub position : Placement
  pub kind : ℕ
  pub number : state ≡ state_of (kinds_of game) position kind
  pub loose : IsLoose game view end position kind value

-- what notes tell is within the bound, lower at most upper, and no tighter than the words after some number of rounds
pub record AreKnown (game : Game) (notes : List Note) : Type 0 where
  pub within : AreWithin game (noted game notes)
  pub reached : AreReached game (noted game notes)

-- in some core of this game in which all that is kept holds, this view stands, and this word has this value
pub record WasHeld (game : Game) (view : View) (word : ℕ) (value : ℤ) : Type 0 where
  pub words : List ℕ
  pub views : List View
  pub kept : IsKept (record { game = game; words = words; views = views })
  pub stands : Contains views view
  pub held : value_of (slice_index words word) ≡ value

-- what every seat keeps of its notes
pub record Knows (view : View) : Type 0 where
  pub notes : (game : Game) → view.game ≡ Some game → AreKnown game view.notes

-- what a board keeps: its table is that of its game
pub record Stands (table : TableId) (key game : Game) : Type 0 where
  pub valid : IsGame game
  pub same : key ≡ game
  pub wide : table.words ≡ words_in game
  pub small : words_in game < 2 ^ 40
  pub bare : table.slots ≡ 0
