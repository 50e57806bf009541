-- The words of a board, where a seat looks them up.
use Rattle.std.specs.Prelude.{ℕ, length, true, None}
use Rattle.turn_rule.specs.Turn.{rounds}
use Rattle.turn_rule.specs.Looks.{Source}
use Rattle.turn_rule.specs.declared.game.Game.{Game}

-- each look-up is answered, and none is looser than the word after the rounds of the seat's base
abbrev pub board_source : Game → ℕ → Source
board_source game base = record {
  checkers = game.checkers;
  kinds = length game.stakes.kinds;
  bound = game.stakes.bound;
  sure = true;
  floor = rounds game.stakes base;
  damage = λ p k. None;
}
