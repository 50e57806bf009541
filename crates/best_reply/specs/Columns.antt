-- The turns of all positions with the same layout of the other side, a column, beside one side's pairs.
use Rattle.std.specs.Prelude.{◌≡◌, ◌<◌, ℕ, true, None}
use Rattle.position_rank.specs.Placement.{Placement}
use Rattle.position_rank.specs.Ranks.{rank_of}
use Rattle.turn_rule.specs.declared.game.Game.{Game}
use Rattle.turn_rule.specs.Games.{kinds_of}
use Rattle.turn_rule.specs.Turn.{Words}
use Rattle.turn_rule.specs.States.{IsState, pair_of}
use Rattle.turn_rule.specs.Looks.{Source}
use Rattle.best_reply.specs.Tables.{IsBankOf, StatePairs, words_by}

-- where a side's pairs are looked up: each look-up is answered, by the word of the pair
abbrev pub source_by : Game → StatePairs → Source
source_by game bank = record {
  checkers = game.checkers;
  kinds = kinds_of game;
  bound = game.stakes.bound;
  sure = true;
  floor = words_by bank;
  damage = λ _ _. None;
}

-- there is a pair for each state, and those of the positions whose other side's layout has a lower rank than this are these words
pub record AreColumnsFilled (game : Game) (target : Words) (other : ℕ)
    (bank : StatePairs) : Type 0 where
  pub full : IsBankOf game bank
  pub so_far :
      (p : Placement) (k : ℕ) → IsState game p k → rank_of p.other < other
      → pair_of (words_by bank) p k ≡ pair_of target p k
