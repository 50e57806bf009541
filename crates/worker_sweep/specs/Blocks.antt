-- Blocks of positions, and what it is that they are swept.
use Rattle.std.specs.Prelude.{◌≡◌, ℕ, ◌+◌}
use Rattle.position_rank.specs.Placement.{Placement}
use Rattle.position_rank.specs.Ranks.{layouts, rank_of}
use Rattle.directed_fixed.specs.declared.bounds.End.{End}
use Rattle.directed_fixed.specs.Bounds.{Bounds, at, IsNoLooser, IsWithinUnits}
use Rattle.turn_rule.specs.declared.game.Game.{Game}
use Rattle.turn_rule.specs.Games.{kinds_of}
use Rattle.turn_rule.specs.Turn.{turn, rounds}
use Rattle.turn_rule.specs.States.{IsState}
use Rattle.interval_words.specs.declared.view.View.{View}
use Rattle.interval_words.specs.declared.view.Work.{Work}
use Rattle.interval_words.specs.Numbers.{state_of, word_of}
use Rattle.interval_words.specs.Seats.{GameSeat, AddsWork}
use Rattle.interval_words.specs.Core.{noted, known}

-- a block is a column: all positions in which the other side's layout has this rank
abbrev pub blocks : ℕ → ℕ
blocks checkers = layouts checkers

-- what a view tells of the states of a block is at least as tight as the words after one round more than its base
abbrev pub IsSwept : Game → View → ℕ → Type 0
IsSwept game view block =
    (end : End) (p : Placement) (k : ℕ) → IsState game p k → rank_of p.other ≡ block
    → IsNoLooser end (known game view end p k) (rounds game.stakes (view.base + 1) end p k)

-- the word is one of a state of this block
pub record IsInBlock (game : Game) (word block : ℕ) : Type 0 where
  pub end : End
  pub position : Placement
  pub kind : ℕ
  pub state : IsState game position kind
  pub column : rank_of position.other ≡ block
  pub number : word ≡ word_of end (state_of (kinds_of game) position kind)

-- a word of this block was brought a value, after so many rounds
abbrev pub IsWorkIn : Game → ℕ → ℕ → Work → Type 0
IsWorkIn game block base work = IsInBlock game work.word block × (work.base ≡ base)

-- all work that a seat has more is on words of this block, after the rounds of its base
abbrev pub WorksIn : Game → ℕ → GameSeat → GameSeat → Type 0
WorksIn game block old new =
    AddsWork (IsWorkIn game block old.view.base) old.view.work new.view.work

-- A pair that a seat may bring for a state, and that sweeps it: within the bound, no tighter than the turn over the seat's notes, and at least
-- as tight as the words after one round more than its base.
pub record MaySweep (game : Game) (view : View) (p : Placement) (k : ℕ)
    (pair : Bounds) : Type 0 where
  pub within : (end : End) → IsWithinUnits game.stakes.bound (at end pair)
  pub loose : (end : End)
      → IsNoLooser end (turn game.stakes (noted game view.notes) end p k) (at end pair)
  pub tight : (end : End)
      → IsNoLooser end (at end pair) (rounds game.stakes (view.base + 1) end p k)
