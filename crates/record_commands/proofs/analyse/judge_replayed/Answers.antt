use Rattle.std.proofs.Common.{◌∙◌, List, All, ap, sym, subst}
use Rattle.game_record.specs.RightDecisions.{IsRightDecision}
use Rattle.game_record.specs.declared.decision.Decision.{Decision}
use Rattle.outside_log.specs.Log.{standing}
use Rattle.record_study.specs.Keeping.{decisions_in}
use Rattle.record_study.proofs.Matches.{unjudged-decisions}
use Rattle.record_commands.specs.Analyses.{AnswersPlain}
use Rattle.record_commands.specs.MatchAnalyses.{AnswersMatch}
use Rattle.record_commands.specs.declared.record.Replayed.{Replayed}
use Rattle.record_commands.proofs.Recorded.{judging-match, judging-plain, rights-kept}
use Rattle.record_commands.proofs.analyse.judge_replayed.Goals as goal

pub judge_match-requires-clause-right : goal.judge_match-requires-clause-right
judge_match-requires-clause-right g c =
    subst (All (IsRightDecision c.args.rec.now)) (sym (ap decisions_in c.in-Ok.ensures ∙ unjudged-decisions c.args.decisions)) c.requires.right.right

pub judge_plain-requires-clause-right : goal.judge_plain-requires-clause-right
judge_plain-requires-clause-right g c =
    subst (All (IsRightDecision c.args.rec.now)) (sym (ap decisions_in c.in-Ok.ensures ∙ unjudged-decisions c.args.decisions)) c.requires.right.right

pub returns-then-is_match-clause-told : goal.returns-then-is_match-clause-told
returns-then-is_match-clause-told g c told =
    let replayed : Replayed = record { rec = c.args.rec.now; decisions = c.args.decisions } in
    let name = c.args.name.now in
    let held = standing (g.F.Files.log c.args.files.now) in
    judging-match name replayed held (sym c.is_match.ensures ∙ c.if-is_match.true) c.judge_match.result
    (subst (λ (ds : List Decision). AnswersMatch name replayed.rec ds held c.judge_match.result) (ap decisions_in c.in-Ok.ensures ∙ unjudged-decisions replayed.decisions) (c.judge_match.ensures.told told))

pub returns-else-is_match-clause-told : goal.returns-else-is_match-clause-told
returns-else-is_match-clause-told g c told =
    let replayed : Replayed = record { rec = c.args.rec.now; decisions = c.args.decisions } in
    let name = c.args.name.now in
    let held = standing (g.F.Files.log c.args.files.now) in
    judging-plain name replayed held (sym c.is_match.ensures ∙ c.if-is_match.false) c.judge_plain.result
    (subst (λ (ds : List Decision). AnswersPlain name replayed.rec ds (held name) c.judge_plain.result) (ap decisions_in c.in-Ok.ensures ∙ unjudged-decisions replayed.decisions) (c.judge_plain.ensures.told told))

pub returns-then-is_match-clause-right : goal.returns-then-is_match-clause-right
returns-then-is_match-clause-right g c =
    rights-kept c.args.rec.now c.args.decisions c.requires.right.right (decisions_in c.in-Ok.analysis) (ap decisions_in c.in-Ok.ensures ∙ unjudged-decisions c.args.decisions) c.judge_match.result c.judge_match.ensures.decisions

pub returns-else-is_match-clause-right : goal.returns-else-is_match-clause-right
returns-else-is_match-clause-right g c =
    rights-kept c.args.rec.now c.args.decisions c.requires.right.right (decisions_in c.in-Ok.analysis) (ap decisions_in c.in-Ok.ensures ∙ unjudged-decisions c.args.decisions) c.judge_plain.result c.judge_plain.ensures.decisions
