-- Words that stand in a list.
use Rattle.std.specs.Prelude.{◌≡◌, ◌<◌, ℕ, ℤ, ◌-ℤ◌, ◌≤ℤ◌, List, length, true, None}
use Rattle.position_rank.specs.Placement.{Placement}
use Rattle.directed_fixed.specs.declared.bounds.End.TheVariants.{Lower, Upper}
use Rattle.directed_fixed.specs.Bounds.{Bounds, IsWithin}
use Rattle.turn_rule.specs.Games.{kinds_of}
use Rattle.turn_rule.specs.States.{IsState, AreNoLooser, pair_of}
use Rattle.turn_rule.specs.Turn.{Words, rounds}
use Rattle.turn_rule.specs.Truth.{AreSound, AreConsistent}
use Rattle.turn_rule.specs.Looks.{Source}
use Rattle.turn_rule.specs.declared.game.Game.{Game}
use Rattle.interval_words.specs.Numbers.{state_of, states_in, words_of, value_in}
use Rattle.interval_words.specs.Core.{words_in}

-- the words of a game after some rounds, two for each state by its number, the lower one first
pub record WordList : Type 0 where
  pub game : Game
  pub rounds : ℕ
  pub list : List ℕ

-- these words of a game, after so many rounds
abbrev pub list_of : Game → ℕ → List ℕ → WordList
list_of game rounds list = record { game = game; rounds = rounds; list = list }

abbrev pub words_in_list : WordList → Words
words_in_list words = words_of (kinds_of words.game) words.list

-- both words of the state with this number
abbrev pub pair_at : List ℕ → ℕ → Bounds
pair_at list state = record {
  lower = value_in list Lower state;
  upper = value_in list Upper state;
}

abbrev pub width : Bounds → ℤ
width pair = pair.upper -ℤ pair.lower

-- the pair of the state with this number is at most so wide
abbrev pub IsNarrowAt : Game → Words → ℤ → ℕ → Type 0
IsNarrowAt game u widest state =
    (p : Placement) (k : ℕ) → IsState game p k → state ≡ state_of (kinds_of game) p k
    → width (pair_of u p k) ≤ℤ widest

-- each state's pair is at most so wide
abbrev pub AreNarrow : Game → Words → ℤ → Type 0
AreNarrow game u widest =
    (p : Placement) (k : ℕ) → IsState game p k → width (pair_of u p k) ≤ℤ widest

-- how many states a game has
abbrev pub states_of : Game → ℕ
states_of game = states_in game.checkers (kinds_of game)

-- there are two words for each state, within the bound, the lower one at most the upper one
pub record AreRight (words : WordList) : Type 0 where
  pub long : length words.list ≡ words_in words.game
  pub within :
      (state : ℕ) → state < states_of words.game
      → IsWithin words.game.stakes.bound (pair_at words.list state)

-- no state's pair is wider, and some state's is as wide
pub record IsWidest (words : WordList) (widest : ℤ) : Type 0 where
  pub each : (state : ℕ) → state < states_of words.game → width (pair_at words.list state) ≤ℤ widest
  pub reached : (state : ℕ) × (state < states_of words.game)
      × (widest ≡ width (pair_at words.list state))

-- the words are sound, consistent, and at least as tight as those after so many rounds
pub record AreClosed (words : WordList) : Type 0 where
  pub sound : AreSound words.game (words_in_list words)
  pub consistent : AreConsistent words.game (words_in_list words)
  pub tight : AreNoLooser words.game (words_in_list words) (rounds words.game.stakes words.rounds)

-- where these words are looked up: each look-up is answered, and no state is damaged
abbrev pub source_of : WordList → Source
source_of words = record {
  checkers = words.game.checkers;
  kinds = kinds_of words.game;
  bound = words.game.stakes.bound;
  sure = true;
  floor = words_in_list words;
  damage = λ _ _. None;
}
