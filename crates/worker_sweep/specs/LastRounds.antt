-- Which round of a game is the last.
use Rattle.std.specs.Prelude.{ℕ, ◌<◌, ◌≤◌, ℤ, Option, IfSome, IsSomeAnd}
use Rattle.turn_rule.specs.Turn.{Words, rounds}
use Rattle.turn_rule.specs.declared.game.Game.{Game}
use Rattle.interval_words.specs.WordLists.{AreNarrow}

-- Of so many rounds that were asked for, this was the last, and it left these words. Where it comes before all are made, there is a goal, and every
-- pair is at most so wide. After no earlier round of a plain table, from the first on, was every pair so narrow.
pub record IsLastRound (game : Game) (goal : Option ℤ) (asked : ℕ) (words : Words)
    (round : ℕ) : Type 0 where
  pub some : 1 ≤ round
  pub most : round ≤ asked
  pub narrow : round < asked → IsSomeAnd goal (AreNarrow game words)
  pub needed : (earlier : ℕ) → 1 ≤ earlier → earlier < round
      → IfSome goal (λ widest. ¬ AreNarrow game (rounds game.stakes earlier) widest)
