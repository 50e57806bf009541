-- Decisions that were studied are those of the record.
use Rattle.std.proofs.Common.{◌≡◌, ◌∙◌, ℕ, List, [], ◌∷◌, map, All, IfOk, Result, Ok, Err, refl, sym, ap, subst}
use Rattle.hyper_outside.specs.declared.outside.NoMemory.{NoMemory}
use Rattle.game_record.specs.RightDecisions.{IsRightDecision}
use Rattle.game_record.specs.declared.decision.Decision.{Decision}
use Rattle.game_record.specs.declared.record.Record.{Record}
use Rattle.turn_rule.specs.declared.game.Game.{Game}
use Rattle.turn_rule.specs.Turn.{rounds}
use Rattle.record_analysis.specs.Analyses.{analysis_of}
use Rattle.record_analysis.specs.Truth.{IsNoLooserAnalysis}
use Rattle.record_analysis.specs.declared.analysis.Judged.{Judged}
use Rattle.record_study.specs.Keeping.{decisions_in}
use Rattle.record_study.specs.Matches.{AreStudiedInMatch, judged_plainly}
use Rattle.record_study.specs.Studies.{AreStudied}
use Rattle.record_commands.proofs.Recorded.{each-decision}

zip-decisions : (list others : List Judged) → IsNoLooserAnalysis list others → decisions_in list ≡ decisions_in others
zip-decisions [] [] tight = refl
zip-decisions [] (other ∷ others) tight = absurd tight
zip-decisions (one ∷ list) [] tight = absurd tight
zip-decisions (one ∷ list) (other ∷ others) tight = ap (λ (d : Decision). d ∷ decisions_in list) tight.0.decision ∙ ap (λ (ds : List Decision). other.decision ∷ ds) (zip-decisions list others tight.1)

plain-decisions-stay : (game : Game) (most : ℕ) (decisions : List Decision) → decisions_in (analysis_of game.stakes (rounds game.stakes most) decisions) ≡ decisions
plain-decisions-stay game most [] = refl
plain-decisions-stay game most (d ∷ ds) = ap (λ (rest : List Decision). d ∷ rest) (plain-decisions-stay game most ds)

match-decisions-stay : (checkers r match_length : ℕ) (decisions : List Decision) → decisions_in (map (judged_plainly checkers r match_length) decisions) ≡ decisions
match-decisions-stay checkers r match_length [] = refl
match-decisions-stay checkers r match_length (d ∷ ds) = ap (λ (rest : List Decision). d ∷ rest) (match-decisions-stay checkers r match_length ds)

module _ (rec : Record) (decisions : List Decision) (right : All (IsRightDecision rec) decisions) where
  pub plain-rights : (game : Game) (most : ℕ) (result : Result (List Judged) NoMemory) → IfOk result (AreStudied game most decisions) → IfOk result (All (λ (one : Judged). IsRightDecision rec one.decision))
  plain-rights game most (Ok list) studied =
      each-decision (IsRightDecision rec) list
      (subst (All (IsRightDecision rec)) (sym (zip-decisions list (analysis_of game.stakes (rounds game.stakes most) decisions) studied.tight ∙ plain-decisions-stay game most decisions)) right)
  plain-rights game most (Err e) studied = tt

  pub match-rights : (checkers match_length r : ℕ) (result : Result (List Judged) NoMemory) → IfOk result (AreStudiedInMatch checkers match_length r decisions) → IfOk result (All (λ (one : Judged). IsRightDecision rec one.decision))
  match-rights checkers match_length r (Ok list) studied =
      each-decision (IsRightDecision rec) list
      (subst (All (IsRightDecision rec)) (sym (zip-decisions list (map (judged_plainly checkers r match_length) decisions) studied.tight ∙ match-decisions-stay checkers r match_length decisions)) right)
  match-rights checkers match_length r (Err e) studied = tt
