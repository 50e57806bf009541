-- What is advised loses at most what it is said to.
use Rattle.std.specs.Prelude.{ℕ, ℤ, Option, Some, None, List, [], ◌∷◌, ⊤}
use Rattle.position_rank.specs.Placement.{Placement}
use Rattle.roll_table.specs.Rolls.{Dice}
use Rattle.directed_fixed.specs.declared.bounds.End.TheVariants.{Upper}
use Rattle.turn_rule.specs.declared.game.Game.{Game}
use Rattle.turn_rule.specs.Games.{IsGame}
use Rattle.turn_rule.specs.Turn.{Words}
use Rattle.turn_rule.specs.Exact.{Scoring}
use Rattle.turn_rule.specs.Truth.{IsBoundOf, IsScoring, AreEnclosing}
use Rattle.turn_rule.specs.declared.choice.Choice.{Choice}
use Rattle.turn_rule.specs.declared.choice.Choice.TheVariants.{Played, Offered, Answered}
use Rattle.play_analyser.specs.declared.advice.CubeAction.{CubeAction}
use Rattle.play_analyser.specs.declared.ranking.PlayRow.{PlayRow}
use Rattle.play_analyser.specs.Regrets.{regret_of, counted_over}

-- words that enclose every state of a game in which so many turns follow
pub record AreTrueWords (game : Game) (scoring : Scoring) (turns : ℕ) (u : Words) : Type 0 where
  pub right : IsGame game
  pub within : IsScoring game scoring
  pub words : AreEnclosing game scoring turns u

-- a choice loses at most so much, where so many turns follow it
abbrev pub LosesAtMost : Game → Scoring → ℕ → Placement → ℕ → Choice → ℤ → Type 0
LosesAtMost game scoring turns p k choice bound =
    IsBoundOf Upper bound (regret_of game.stakes scoring turns p k choice)
    (counted_over scoring turns choice)

-- the first play of a ranking loses at most its bound
abbrev pub FirstLosesAtMost : Game → Scoring → ℕ → Placement → ℕ → Dice → List PlayRow → ℤ → Type 0
FirstLosesAtMost game scoring turns p k roll [] bound = ⊥
FirstLosesAtMost game scoring turns p k roll (row ∷ rows) bound =
    LosesAtMost game scoring turns p k (Played roll row.entry.end) bound

-- the advised offer and the advised answer, where there are any, lose at most their bounds
abbrev pub ActionLosesAtMost : Game → Scoring → ℕ → Placement → ℕ → Option CubeAction → Type 0
ActionLosesAtMost game scoring turns p k None = ⊤
ActionLosesAtMost game scoring turns p k (Some action) =
    LosesAtMost game scoring turns p k (Offered action.offer) action.offer_bound
    × LosesAtMost game scoring turns p k (Answered action.answer) action.answer_bound
