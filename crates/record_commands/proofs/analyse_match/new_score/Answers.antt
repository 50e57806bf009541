use Rattle.std.proofs.Common.{◌≡◌, ◌∙◌, ◌<◌, ◌-◌, ℕ, zero, suc, List, [], ◌∷◌, length, IfSome, Option, Some, None, inl, inr, sym, ap, arith}
use Rattle.std.specs.Prelude.{slice_get}
use Rattle.cube_actions.specs.Scores.{MatchScore}
use Rattle.game_record.specs.declared.decision.Decision.{Decision}
use Rattle.record_analysis.specs.declared.analysis.Judged.{Judged}
use Rattle.record_study.specs.Keeping.{decisions_in}
use Rattle.record_commands.specs.MatchAnalyses.{score_there}
use Rattle.record_commands.proofs.analyse_match.new_score.Goals as goal

-- the score of the decision that is read at a place
score-read : (list : List Judged) (place : ℕ) → place < length list → (decision : Decision) → IfSome (slice_get list place) (λ judged. decision ≡ judged.decision) → score_there (decisions_in list) place ≡ decision.score
score-read [] place below decision is = absurd (omega arith)
score-read (one ∷ list) zero below decision is = ap (λ (d : Decision). d.score) (sym is)
score-read (one ∷ list) (suc place) below decision is = score-read list place (omega arith) decision is

if-same : (o given : Option MatchScore) → o ≡ given → IfSome given (λ score. o ≡ Some score)
if-same o None is = tt
if-same o (Some score) is = is

pub returns-then-is_like-clause-none : goal.returns-then-is_like-clause-none
returns-then-is_like-clause-none c none =
    let list = c.args.analysis.now in
    let place = c.args.place in
    let less : place - 1 < place = omega arith in
    inr (place - 1, less, score-read list (place - 1) (omega arith) c.decision.result.now c.decision.ensures ∙ c.is_like.ensures.0 c.if-is_like.true ∙ sym (score-read list place c.requires c.decision-decision.result.now c.decision-decision.ensures))

pub returns-clause-own : goal.returns-clause-own
returns-clause-own c =
    if-same (score_there (decisions_in c.args.analysis.now) c.args.place) c.decision-decision.result.now.score (score-read c.args.analysis.now c.args.place c.requires c.decision-decision.result.now c.decision-decision.ensures)

pub returns-clause-none : goal.returns-clause-none
returns-clause-none c none = inl (score-read c.args.analysis.now c.args.place c.requires c.decision-decision.result.now c.decision-decision.ensures ∙ none)
