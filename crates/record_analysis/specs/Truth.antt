-- What the losses of decisions enclose, and when one analysis says at least as much as another.
use Rattle.std.specs.Prelude.{◌≡◌, ◌≤◌, ℕ, List, All, IfSome, IsSomeAnd}
use Rattle.std.specs.List.{AllZip}
use Rattle.directed_fixed.specs.Bounds.{Bounds, AreNoLooserPairs}
use Rattle.cube_actions.specs.Stakes.{Terms}
use Rattle.game_record.specs.declared.decision.Decision.{Decision}
use Rattle.turn_rule.specs.declared.game.Game.{Game}
use Rattle.turn_rule.specs.Exact.{Scoring}
use Rattle.turn_rule.specs.States.{IsState}
use Rattle.turn_rule.specs.Truth.{Encloses, IsScoring}
use Rattle.play_analyser.specs.Choices.{IsChoice}
use Rattle.play_analyser.specs.Regrets.{counted_over, regret_of}
use Rattle.record_analysis.specs.declared.analysis.Judged.{Judged}

-- a decision of a game: it was made in one of its states, and could be made there
pub record IsDecisionOf (game : Game) (decision : Decision) : Type 0 where
  pub state : IsState game decision.position decision.kind
  pub choice : IsChoice game.stakes decision.position decision.kind decision.choice

-- a pair encloses what a decision loses exactly where so many turns follow it
abbrev pub EnclosesLoss : Terms → Scoring → ℕ → Decision → Bounds → Type 0
EnclosesLoss stakes scoring turns decision pair =
    Encloses pair (regret_of stakes scoring turns decision.position decision.kind decision.choice)
    (counted_over scoring turns decision.choice)

-- each pair of an analysis does, however the game is scored within its stakes
abbrev pub EncloseLosses : Game → ℕ → List Judged → Type 0
EncloseLosses game turns list =
    (scoring : Scoring) → IsScoring game scoring
    → All (λ judged. IfSome judged.loss (EnclosesLoss game.stakes scoring turns judged.decision))
    list

-- An analysis is true where from some number of turns on, one for all its decisions, each pair encloses what its decision loses exactly.
abbrev pub IsTrueAnalysis : Game → List Judged → Type 0
IsTrueAnalysis game list =
    (enough : ℕ) × ((turns : ℕ) → enough ≤ turns → EncloseLosses game turns list)

-- the same decision, and a pair that is at least as tight
pub record IsNoLooserJudged (one other : Judged) : Type 0 where
  pub decision : one.decision ≡ other.decision
  pub loss : IsSomeAnd one.loss (λ pair. IsSomeAnd other.loss (AreNoLooserPairs pair))

-- the same decisions, each with a pair that is at least as tight
abbrev pub IsNoLooserAnalysis : List Judged → List Judged → Type 0
IsNoLooserAnalysis = AllZip IsNoLooserJudged
