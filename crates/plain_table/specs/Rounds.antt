-- Rounds of a whole table.
use Rattle.std.specs.Prelude.{◌≡◌, ◌<◌, ℕ}
use Rattle.position_rank.specs.Placement.{Placement}
use Rattle.position_rank.specs.Ranks.{rank_of}
use Rattle.cube_actions.specs.Stakes.{Terms, IsValid}
use Rattle.turn_rule.specs.Games.{game_of}
use Rattle.turn_rule.specs.Turn.{turn, rounds}
use Rattle.turn_rule.specs.States.{IsState, pair_of, Agree}
use Rattle.column_turns.specs.Columns.{ColumnPairs}
use Rattle.plain_table.specs.Tables.{PairTable, IsFull, words_at}
use Rattle.plain_table.specs.Columns.{IsColumnOver}

-- a game's stakes and a table of its pairs
pub record StakesAndTable : Type 0 where
  pub stakes : Terms
  pub table : PairTable

-- in each state, the table has the words after so many rounds
abbrev pub HasTable : StakesAndTable → ℕ → Type 0
HasTable game r =
    Agree (game_of game.table.checkers game.stakes) (words_at game.table) (rounds game.stakes r)

-- in each state, the new table has the turn over the old one
abbrev pub IsTableTurned : StakesAndTable → StakesAndTable → Type 0
IsTableTurned old new =
    let game = game_of old.table.checkers old.stakes in
    Agree game (words_at new.table) (turn old.stakes (words_at old.table))

-- in each state of the columns before this one, the new table has the turn over the old one
abbrev pub IsTurnedBefore : Terms → PairTable → PairTable → ℕ → Type 0
IsTurnedBefore stakes old new column =
    (p : Placement) (k : ℕ) → IsState (game_of old.checkers stakes) p k → rank_of p.other < column
    → pair_of (words_at new) p k ≡ pair_of (turn stakes (words_at old)) p k

-- a table of the same game
pub record AreAlike (old new : PairTable) : Type 0 where
  pub checkers : new.checkers ≡ old.checkers
  pub kinds : new.kinds ≡ old.kinds

-- a table whose next round may be made: there is room for a column and for the next pairs
pub record IsTableSet (stakes : Terms) (column : ColumnPairs) (now next : PairTable) : Type 0 where
  pub valid : IsValid stakes
  pub over : IsColumnOver stakes column now
  pub alike : AreAlike now next
  pub full_now : IsFull now
  pub full_next : IsFull next
