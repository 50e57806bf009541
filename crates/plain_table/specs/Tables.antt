-- A table of pairs, one for each square and kind.
use Rattle.std.specs.Prelude.{◌≡◌, ℕ, ◌+◌, ◌*◌, ℤ, true, None, List, length, slice_index_or}
use Rattle.position_rank.specs.Placement.{Placement}
use Rattle.position_rank.specs.Ranks.{square_rank_of}
use Rattle.directed_fixed.specs.Bounds.{Bounds, at}
use Rattle.cube_actions.specs.Stakes.{nothing}
use Rattle.turn_rule.specs.Turn.{Words}
use Rattle.turn_rule.specs.Looks.{Source}
use Rattle.turn_rule.specs.Layouts.{squares_of}

-- the pairs of a game of so many checkers a side and so many kinds, by rising square rank and
-- then kind
pub record PairTable : Type 0 where
  pub checkers : ℕ
  pub kinds : ℕ
  pub pairs : List Bounds

-- there is a pair for each square and kind
abbrev pub IsFull : PairTable → Type 0
IsFull table = length table.pairs ≡ squares_of table.checkers * table.kinds

-- where the pair of a position and a kind stands
abbrev pub table_place : ℕ → Placement → ℕ → ℕ
table_place kinds p k = square_rank_of p * kinds + k

-- the words of a table
abbrev pub words_at : PairTable → Words
words_at table end p k = at end (slice_index_or table.pairs (table_place table.kinds p k) nothing)

-- where a table's words are looked up: each look-up is answered, by the table's word
abbrev pub read_from : PairTable → ℤ → Source
read_from table bound = record {
  checkers = table.checkers;
  kinds = table.kinds;
  bound = bound;
  sure = true;
  floor = words_at table;
  damage = λ p k. None;
}
