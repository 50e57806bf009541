-- How words stand in a list: two for each state, by rising live rank of the position, then kind, the lower word first.
use Rattle.std.specs.Prelude.{◌≡◌, ◌<◌, ℕ, ◌+◌, ◌*◌, ◌^◌, max, min, ℤ, pos, neg_ℤ, ◌-ℤ◌, List, length, slice_index}
use Rattle.std.specs.Int.{int_max, int_min}
use Rattle.position_rank.specs.Placement.{Placement}
use Rattle.position_rank.specs.LiveRanks.{live_rank_of, live_positions}
use Rattle.directed_fixed.specs.declared.bounds.End.{End}
use Rattle.directed_fixed.specs.declared.bounds.End.TheVariants.{Lower, Upper}
use Rattle.turn_rule.specs.Turn.{Words}

-- the number of a state, in a game of so many kinds
unfoldable pub state_of : ℕ → Placement → ℕ → ℕ
state_of kinds p k = live_rank_of p * kinds + k

-- how many states there are of so many checkers and kinds
unfoldable pub states_in : ℕ → ℕ → ℕ
states_in checkers kinds = live_positions checkers * kinds

-- where a word of the state with this number stands
abbrev pub word_of : End → ℕ → ℕ
word_of Lower state = 2 * state
word_of Upper state = 2 * state + 1

-- the value that a word stands for
unfoldable pub value_of : ℕ → ℤ
value_of word = pos word -ℤ pos (2 ^ 36)

-- what a word of the state with this number stands for
abbrev pub value_in : List ℕ → End → ℕ → ℤ
value_in list end state = value_of (slice_index list (word_of end state))

-- the words of a list
abbrev pub words_of : ℕ → List ℕ → Words
words_of kinds list end p k = value_in list end (state_of kinds p k)

-- the tighter of two values
abbrev pub tightest : End → ℤ → ℤ → ℤ
tightest Lower a b = int_max a b
tightest Upper a b = int_min a b

-- the word of the tighter value
abbrev pub tightest_word : End → ℕ → ℕ → ℕ
tightest_word Lower a b = max a b
tightest_word Upper a b = min a b

-- two words for each of so many states, whose values are the bound on both sides of 0
pub record AreBoundWords (bound : ℤ) (states : ℕ) (list : List ℕ) : Type 0 where
  pub long : length list ≡ 2 * states
  pub lower : (state : ℕ) → state < states → value_in list Lower state ≡ neg_ℤ bound
  pub upper : (state : ℕ) → state < states → value_in list Upper state ≡ bound
