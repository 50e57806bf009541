-- The words of the positions with the same layout of the other side, a column.
use Rattle.std.specs.Prelude.{◌≡◌, ◌≤◌, ◌<◌, ◌+◌, ℕ, Bool, false, true, Result, Err, IfOk, Vec, List, length, slice_index_or}
use Rattle.std.specs.Global.{Global}
use Rattle.position_rank.specs.Placement.{Placement}
use Rattle.position_rank.specs.Ranks.{layouts, rank_of}
use Rattle.directed_fixed.specs.declared.bounds.End.{End}
use Rattle.hyper_outside.specs.declared.outside.NoMemory.{NoMemory}
use Rattle.turn_rule.specs.Games.{kinds_of}
use Rattle.turn_rule.specs.States.{IsState, pair_of}
use Rattle.column_turns.specs.Columns.{ColumnPairs, pair_in, position_in}
use Rattle.interval_words.specs.WordLists.{WordList}
use Rattle.base_verify.specs.Findings.{WordHolds, turn_over}

-- the words of all positions hold whose other side's layout has a rank from one to before another
abbrev pub ColumnsHold : WordList → ℕ → ℕ → Type 0
ColumnsHold words from to =
    (side : End) (p : Placement) (k : ℕ) → IsState words.game p k
    → from ≤ rank_of p.other → rank_of p.other < to → WordHolds words side p k

-- a column's position is a state in each kind, and its pairs are the turns over the words
pub record IsPositionTurned (words : WordList) (column : ColumnPairs) (i : ℕ) : Type 0 where
  pub states : (k : ℕ) → k < kinds_of words.game → IsState words.game (position_in column i) k
  pub turns : (k : ℕ) → k < kinds_of words.game
      → pair_in column i k ≡ pair_of (turn_over words) (position_in column i) k

-- both words of the first few of a column's positions hold in a kind
abbrev pub KindHolds : WordList → ColumnPairs → ℕ → ℕ → Type 0
KindHolds words column k count =
    (side : End) (i : ℕ) → i < count → WordHolds words side (position_in column i) k

-- each column holds whose mark is set
pub record AreHeld (words : WordList) (marks : List Bool) : Type 0 where
  pub many : length marks ≡ layouts words.game.checkers
  pub each :
      (other : ℕ) → other < length marks → slice_index_or marks other false ≡ true
      → ColumnsHold words other (other + 1)

-- each worker that tells marks tells them of columns that hold
abbrev pub AreToldHeld : WordList → List (Result (Vec Bool Global) NoMemory) → Type 0
AreToldHeld words told =
    (worker : ℕ) → worker < length told
    → IfOk (slice_index_or told worker (Err (record {}))) (λ marks. AreHeld words marks.items)
