-- The states that meet a condition, in their order.
use Rattle.std.specs.Prelude.{◌≡◌, ◌<◌, ℕ, ◌*◌, ◌+◌, ◌-◌, ◌/◌, List, [], length, map, filter, All, flat_map, slice_index_or, Result, IfOk, Vec, if◌then◌else◌}
use Rattle.std.specs.Global.{Global}
use Rattle.std.specs.List.{range_with_len}
use Rattle.position_rank.specs.Placement.{Placement}
use Rattle.position_rank.specs.Ranks.{layouts}
use Rattle.position_rank.specs.LiveRanks.{is_live, placement_at}
use Rattle.hyper_outside.specs.declared.outside.NoMemory.{NoMemory}
use Rattle.turn_rule.specs.Games.{kinds_of}
use Rattle.turn_rule.specs.States.{IsState}
use Rattle.turn_rule.specs.declared.game.Game.{Game}
use Rattle.interval_words.specs.WordLists.{WordList}
use Rattle.base_scan.specs.declared.condition.Test.{Test}
use Rattle.base_scan.specs.declared.found.State.{State}
use Rattle.base_scan.specs.Meets.{meets}

-- a position with each of so many kinds
abbrev pub with_kinds : ℕ → Placement → List State
with_kinds kinds p = map (λ (k : ℕ). record { position = p; kind = k }) (range_with_len 0 kinds)

-- the states of the position at a square, by their kinds; there are none where it isn't live
abbrev pub states_at : Game → ℕ → List State
states_at game square =
    let p = placement_at game.checkers square in
    if is_live p then with_kinds (kinds_of game) p else []

-- the states of so many squares from one on
abbrev pub states_from : Game → ℕ → ℕ → List State
states_from game square many = flat_map (states_at game) (range_with_len square many)

-- how many pairs of layouts there are
abbrev pub squares : Game → ℕ
squares game = layouts game.checkers * layouts game.checkers

-- the states of the positions of one layout of the mover, and those of so many layouts from one on
abbrev pub states_of_row : Game → ℕ → List State
states_of_row game row = states_from game (row * layouts game.checkers) (layouts game.checkers)

abbrev pub states_of_rows : Game → ℕ → ℕ → List State
states_of_rows game row many =
    states_from game (row * layouts game.checkers) (many * layouts game.checkers)

-- all states of a game: by rising square of the position, which is to say by rising live rank, and then by kind
abbrev pub all_states : Game → List State
all_states game = states_from game 0 (squares game)

abbrev pub meeting_among : WordList → List (List Test) → List State → List State
meeting_among words groups states =
    filter (λ state. meets words groups state.position state.kind) states

-- the states that meet a condition
abbrev pub meeting : WordList → List (List Test) → List State
meeting words groups = meeting_among words groups (all_states words.game)

-- a live position of the game's checkers, and one of its kinds
abbrev pub IsFoundState : Game → State → Type 0
IsFoundState game state = IsState game state.position state.kind

-- the rank of the layout of the mover where a part begins, where so many parts share the layouts
abbrev pub first_row : Game → ℕ → ℕ → ℕ
first_row game parts number = layouts game.checkers * number / parts

-- a part's states that meet the condition, in their order
pub record IsScanned (words : WordList) (groups : List (List Test)) (parts number : ℕ)
    (states : List State) : Type 0 where
  pub found :
      let from = first_row words.game parts number in
      states ≡ meeting_among words groups (states_of_rows words.game from
      (first_row words.game parts (number + 1) - from))
  pub right : All (IsFoundState words.game) states

-- each of so many parts has its states, unless memory ran out
pub record AreScanned (words : WordList) (groups : List (List Test)) (parts : ℕ)
    (scanned : List (Result (Vec State Global) NoMemory)) : Type 0 where
  pub many : length scanned ≡ parts
  pub each :
      (number : ℕ) (d : Result (Vec State Global) NoMemory) → number < parts
      → IfOk (slice_index_or scanned number d)
      (λ states. IsScanned words groups parts number states.items)

-- the states that meet a condition were found, each of which is one of the game's
pub record AreFound (words : WordList) (groups : List (List Test))
    (states : List State) : Type 0 where
  pub all : states ≡ meeting words groups
  pub right : All (IsFoundState words.game) states
