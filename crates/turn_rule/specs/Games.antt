-- What a game is played with.
use Rattle.std.specs.Prelude.{ℕ, ◌≤◌, length}
use Rattle.cube_actions.specs.Stakes.{Terms, IsValid}
use Rattle.turn_rule.specs.declared.game.Game.{Game}

-- one to three checkers a side, and valid stakes
pub record IsGame (game : Game) : Type 0 where
  pub low : 1 ≤ game.checkers
  pub high : game.checkers ≤ 3
  pub stakes : IsValid game.stakes

abbrev pub kinds_of : Game → ℕ
kinds_of game = length game.stakes.kinds

-- so many checkers a side, and these stakes
abbrev pub game_of : ℕ → Terms → Game
game_of checkers stakes = record { checkers = checkers; stakes = stakes }
