-- What a search keeps of layouts, and of a state that it looks at.
use Rattle.std.specs.Prelude.{◌≡◌, ◌<◌, ℕ, List, length, sum, slice_index, slice_index_or}
use Rattle.position_rank.specs.Placement.{Placement, IsLayout}
use Rattle.position_rank.specs.Points.{AreOtherPoints}
use Rattle.position_rank.specs.Ranks.{layouts, rank_of}
use Rattle.turn_rule.specs.Games.{kinds_of}
use Rattle.turn_rule.specs.States.{IsState}
use Rattle.interval_words.specs.Numbers.{state_of}
use Rattle.interval_words.specs.WordLists.{WordList, states_of}
use Rattle.base_scan.specs.declared.numbers.Seen.{Seen}
use Rattle.base_scan.specs.declared.sides.Listed.{Listed}
use Rattle.base_scan.specs.declared.sides.Side.{Side}
use Rattle.base_scan.specs.Meets.{side_pips}

-- the pips of these checkers, and how many of them are off and on the bar
pub record IsSideOf (counts : List ℕ) (side : Side) : Type 0 where
  pub pips_are : side.pips ≡ side_pips counts
  pub off : side.off ≡ slice_index counts 0
  pub on_bar : side.on_bar ≡ slice_index counts 25

-- a layout of so many checkers, its points and what tests ask of it
pub record IsLayoutListed (checkers : ℕ) (one : Listed) : Type 0 where
  pub valid : IsLayout one.layout
  pub many : sum one.layout ≡ checkers
  pub points : AreOtherPoints one.points one.layout
  pub side : IsSideOf one.layout one.side

-- all layouts of so many checkers, by rising rank
pub record AreLayoutsListed (checkers : ℕ) (all : List Listed) : Type 0 where
  pub many : length all ≡ layouts checkers
  pub each : (rank : ℕ) (none : Listed) → rank < length all
      → IsLayoutListed checkers (slice_index_or all rank none)
  pub ranked : (rank : ℕ) (none : Listed) → rank < length all
      → rank_of (slice_index_or all rank none).layout ≡ rank

-- the position of a layout of the mover and one of the other side
abbrev pub position_of : Listed → Listed → Placement
position_of mover other = record { mover = mover.layout; other = other.layout }

-- a state with its number, and what tests ask of its sides
pub record IsSeen (words : WordList) (seen : Seen) : Type 0 where
  pub state : IsState words.game seen.position seen.kind
  pub number : seen.state ≡ state_of (kinds_of words.game) seen.position seen.kind
  pub inside : seen.state < states_of words.game
  pub mover : IsSideOf seen.position.mover seen.mover
  pub other : IsSideOf seen.position.other seen.other
