-- The decisions of a recorded game, each with the pair of what it loses, and what was best.
use Rattle.std.specs.Prelude.{◌≤◌, pos, ◌≤ℤ◌, List, length, map, All, IfSome, IsSomeAnd, Some, None}
use Rattle.directed_fixed.specs.Bounds.{Bounds}
use Rattle.cube_actions.specs.Stakes.{Terms, point_units}
use Rattle.game_record.specs.declared.decision.Decision.{Decision}
use Rattle.turn_rule.specs.Turn.{Words}
use Rattle.play_analyser.specs.Bests.{CanBeMade, IsBestOver}
use Rattle.play_analyser.specs.Regrets.{loss_of}
use Rattle.record_analysis.specs.declared.analysis.Judged.{Judged}

-- a decision that wasn't judged
abbrev pub unjudged : Decision → Judged
unjudged decision = record { decision = decision; loss = None; best = None }

-- what a decision loses at least and at most, over words
abbrev pub lost : Terms → Words → Decision → Bounds
lost stakes u decision = loss_of stakes u decision.position decision.kind decision.choice

-- the same decisions and losses, without what was best
abbrev pub losses_alone : List Judged → List Judged
losses_alone list =
    map (λ (judged : Judged).
    record { decision = judged.decision; loss = judged.loss; best = None }) list

-- The losses of decisions over words: each decision with the pair of what it loses.
abbrev pub analysis_of : Terms → Words → List Decision → List Judged
analysis_of stakes u decisions =
    map (λ (decision : Decision).
    record { decision = decision; loss = Some (lost stakes u decision); best = None }) decisions

-- what was best at a decision is the best over words
abbrev pub IsBestFor : Terms → Words → Judged → Type 0
IsBestFor stakes u judged =
    IsSomeAnd judged.best
    (IsBestOver stakes u judged.decision.position judged.decision.kind judged.decision.choice)

-- both ends lie from 0 to 24 points, which is eight times the most that can be won
pub record IsSmallLoss (pair : Bounds) : Type 0 where
  pub from : pos 0 ≤ℤ pair.lower
  pub to : pair.upper ≤ℤ point_units 24

abbrev pub IsSmallJudged : Judged → Type 0
IsSmallJudged judged = IfSome judged.loss IsSmallLoss

-- what was best can be made in the position of the decision
abbrev pub BestCanBeMade : Judged → Type 0
BestCanBeMade judged =
    IfSome judged.best (λ best. CanBeMade judged.decision.position best.advised)

-- no more decisions than a record can have, no loss that can't be, and no best play that can't be made
pub record IsAnalysis (list : List Judged) : Type 0 where
  pub few : length list ≤ 131072
  pub small : All IsSmallJudged list
  pub made : All BestCanBeMade list
