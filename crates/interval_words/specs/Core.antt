-- The core of a game: its words, and for each seat a view, what the seat knows of the words.
use Rattle.std.specs.Prelude.{◌≡◌, ◌==◌, ℕ, ◌+◌, ◌-◌, ◌*◌, ℤ, List, [], ◌∷◌, ◌++◌, All, Some, None, length, max, if◌then◌else◌}
use Rattle.position_rank.specs.Placement.{Placement}
use Rattle.directed_fixed.specs.declared.bounds.End.{End}
use Rattle.directed_fixed.specs.Bounds.{IsWithinUnits}
use Rattle.turn_rule.specs.Games.{IsGame, kinds_of}
use Rattle.turn_rule.specs.Turn.{Words, bound_words, rounds}
use Rattle.turn_rule.specs.States.{IsState, AreNoLooser, Agree}
use Rattle.turn_rule.specs.Truth.{AreConsistent}
use Rattle.turn_rule.specs.declared.game.Game.{Game}
use Rattle.interval_words.specs.declared.view.Note.{Note}
use Rattle.interval_words.specs.declared.view.View.{View}
use Rattle.interval_words.specs.Numbers.{state_of, states_in, word_of, words_of, tightest}

-- there are two words for each state
abbrev pub words_in : Game → ℕ
words_in game = 2 * states_in game.checkers (kinds_of game)

-- what notes tell of each word: the tightest note of it, or else only the bound
abbrev pub noted : Game → List Note → Words
noted game [] end p k = bound_words game.stakes end p k
noted game (note ∷ notes) end p k = if note.word == word_of end (state_of (kinds_of game) p k)
    then tightest end note.value (noted game notes end p k)
    else noted game notes end p k

-- what a view tells of each word: its note, or the word after the rounds of its base where that is tighter
abbrev pub known : Game → View → Words
known game view end p k =
    tightest end (noted game view.notes end p k) (rounds game.stakes view.base end p k)

-- words that are no tighter than those after some number of rounds
abbrev pub AreReached : Game → Words → Type 0
AreReached game u = (r : ℕ) × AreNoLooser game (rounds game.stakes r) u

-- each word is within the bound
abbrev pub AreInBound : Game → Words → Type 0
AreInBound game u =
    (end : End) (p : Placement) (k : ℕ) → IsState game p k
    → IsWithinUnits game.stakes.bound (u end p k)

-- a view over words: the game that it names is theirs, no note is tighter than its word, and the words are at least as tight as those after
-- the rounds of its base
pub record IsTrueOf (game : Game) (u : Words) (view : View) : Type 0 where
  pub names : (named : Game) → view.game ≡ Some named → named ≡ game
  pub notes : AreNoLooser game u (noted game view.notes)
  pub base : AreNoLooser game u (rounds game.stakes view.base)

-- a game, the list of its words, and a view for each seat
pub record Core : Type 0 where
  pub game : Game
  pub words : List ℕ
  pub views : List View

-- the words of a core
abbrev pub words_in_core : Core → Words
words_in_core core = words_of (kinds_of core.game) core.words

-- what always holds of a core
pub record IsKept (core : Core) : Type 0 where
  pub game : IsGame core.game
  pub long : length core.words ≡ words_in core.game
  pub reached : AreReached core.game (words_in_core core)
  pub within : AreInBound core.game (words_in_core core)
  pub consistent : AreConsistent core.game (words_in_core core)
  pub views : All (IsTrueOf core.game (words_in_core core)) core.views

-- at the start only the bound is known, and there is no view
pub record IsFirstCore (core : Core) : Type 0 where
  pub game : IsGame core.game
  pub long : length core.words ≡ words_in core.game
  pub words : Agree core.game (words_in_core core) (bound_words core.game.stakes)
  pub views : core.views ≡ []

-- how many hands there are at a board: those of 64 workers and of their owner
abbrev pub all_hands : ℕ
all_hands = 65

-- a first view of a game, which tells nothing and has all hands
abbrev pub first_view : Game → View
first_view game = record { game = Some game; base = 0; notes = []; work = []; hands = all_hands }

-- a view with one note more
abbrev pub with_note : View → ℕ → ℤ → View
with_note view word value =
    record view { notes = record { word = word; value = value } ∷ view.notes }

-- a view that brought a word a value, which is noted
abbrev pub brought : View → ℕ → ℤ → View
brought view word value = record view {
  notes = record { word = word; value = value } ∷ view.notes;
  work = record { word = word; base = view.base } ∷ view.work;
}

-- a view that knows the same, and has no hand and no work
abbrev pub without_work : View → View
without_work view = record view { work = []; hands = 0 }

-- a view that handed over a hand, and one that knows the same and got it
abbrev pub without_hand : View → View
without_hand view = record view { hands = view.hands - 1 }

abbrev pub hired : View → View
hired view = record view { work = []; hands = 1 }

-- a view after one round more, whose notes are dropped
abbrev pub settled : View → View
settled view = record view { base = view.base + 1; notes = [] }

-- the notes, the work and the hands of two views, and the larger base
abbrev pub joined : View → View → View
joined view other = record view {
  base = max view.base other.base;
  notes = view.notes ++ other.notes;
  work = view.work ++ other.work;
  hands = view.hands + other.hands;
}

-- what is left of a view that another took in
abbrev pub spent : View
spent = record { game = None; base = 0; notes = []; work = []; hands = 0 }
