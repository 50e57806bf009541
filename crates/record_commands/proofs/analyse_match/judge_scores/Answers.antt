use Rattle.std.proofs.Common.{◌≡◌, ◌∙◌, List, All, Some, inl, inr, ap, sym, subst, arith}
use Rattle.std.proofs.lemmas.List.Elements.{All-map}
use Rattle.cube_actions.specs.Scores.{MatchScore}
use Rattle.game_record.specs.declared.decision.Decision.{Decision}
use Rattle.outside_log.specs.Files.{Contents}
use Rattle.outside_log.specs.Log.{standing}
use Rattle.outside_log.proofs.Readings.{reads-before, reads-both, reads-same}
use Rattle.record_analysis.specs.declared.analysis.Judged.{Judged}
use Rattle.record_study.specs.Keeping.{IsDecisionInMatch, decisions_in}
use Rattle.record_study.proofs.Matches.{some-given}
use Rattle.run_endings.specs.Pages.{OfHeld}
use Rattle.run_endings.specs.Scores.{score_file}
use Rattle.record_commands.specs.ByFile.{JudgesList, RefusesFile}
use Rattle.record_commands.specs.MatchAnalyses.{HasNoNewScore, RestsOnRightPages, game_at, score_there}
use Rattle.record_commands.specs.Records.{match_length}
use Rattle.record_commands.proofs.Matches.{AreJudged, all-judged, judged-next, judged-pages, more, no-new, none-judged, whole}
use Rattle.record_commands.proofs.Recorded.{decisions-long, each-decision}
use Rattle.record_commands.proofs.analyse_match.judge_scores.Goals as goal

pub loop-place-preserved-in_default : goal.loop-place-preserved-in_default
loop-place-preserved-in_default g c =
    let inv = c.loop-place.invariant in
    let Judged = AreJudged c.args.prefix.now c.args.rec.now (standing (g.F.Files.log c.args.files.now)) c.loop-place.analysis in
    let decisions = decisions_in c.args.analysis.now in
    let place = c.loop-place.place in
    record {
      end = inv.end;
      decisions = inv.decisions;
      reads = inv.reads;
      later = inv.later;
      judged = λ tells.
          more Judged decisions place (inv.judged tells)
          (no-new Judged decisions (none-judged c.args.prefix.now c.args.rec.now (standing (g.F.Files.log c.args.files.now)) c.loop-place.analysis) place
          (subst (λ (ds : List Decision). HasNoNewScore ds place) inv.decisions (c.new_score.ensures.none c.in_default.is)) (inv.judged tells)) _ (omega arith);
    }

pub judge_at-requires-clause-decisions : goal.judge_at-requires-clause-decisions
judge_at-requires-clause-decisions g c =
    let P = IsDecisionInMatch c.args.rec.now.checkers (match_length c.args.rec.now.stakes) in
    each-decision P c.loop-place.analysis (subst (All P) (sym c.loop-place.invariant.decisions) (All-map P (λ (one : Judged). one.decision) c.args.analysis.now c.requires.decisions))

pub loop-place-preserved : goal.loop-place-preserved
loop-place-preserved g c =
    let inv = c.loop-place.invariant in
    let held = standing (g.F.Files.log c.args.files.now) in
    let prefix = c.args.prefix.now in
    let rec = c.args.rec.now in
    let old = c.loop-place.analysis in
    let new = c.judge_at.new.analysis in
    let decisions = decisions_in c.args.analysis.now in
    let place = c.loop-place.place in
    let score = c.in-Some.score in
    let own : score_there decisions place ≡ Some score = ap (λ (ds : List Decision). score_there ds place) (sym inv.decisions) ∙ c.in-Some.ensures.own in
    record {
      end = inv.end;
      decisions = c.judge_at.ensures.decisions ∙ inv.decisions;
      reads = reads-both _ _ _ inv.reads c.judge_at.ensures.reads;
      later = (let one = inv.later in let two = c.judge_at.ensures.later in omega (arith, one, two));
      judged = λ tells.
          (let judges = subst (λ (h : Contents). OfHeld (h (score_file prefix score)) (JudgesList (game_at rec score) (Some score) old new)) (reads-same inv.reads) (c.in-Ok.ensures.told tells) in
          let before = inv.judged (reads-before c.judge_at.ensures.reads tells) in
          more (AreJudged prefix rec held new) decisions place (λ earlier less. judged-next prefix rec held score old new judges (score_there decisions earlier) (inl (before earlier less)))
          (judged-next prefix rec held score old new judges (score_there decisions place) (inr own)) _ (omega arith));
    }

pub returns-in-Err-clause-told : goal.returns-in-Err-clause-told
returns-in-Err-clause-told g c tells =
    let inv = c.loop-place.invariant in
    let held = standing (g.F.Files.log c.args.files.now) in
    let prefix = c.args.prefix.now in
    let rec = c.args.rec.now in
    let decisions = decisions_in c.args.analysis.now in
    let place = c.loop-place.place in
    let score = c.in-Some.score in
    let refusal = c.in-Err.refusal in
    let one = subst (λ (h : Contents). RefusesFile (game_at rec score) (score_file prefix score) (Some score) (decisions_in c.loop-place.analysis) refusal (h (score_file prefix score))) (reads-same inv.reads) (c.in-Err.ensures.told tells) in
    let two = subst (λ (ds : List Decision). RefusesFile (game_at rec score) (score_file prefix score) (Some score) ds refusal (held (score_file prefix score))) inv.decisions one in (
      place,
      λ earlier less. subst (λ (ds : List Decision). RestsOnRightPages prefix held ds (score_there decisions earlier)) inv.decisions (judged-pages prefix rec held c.loop-place.analysis (score_there decisions earlier) (inv.judged (reads-before c.judge_at.ensures.reads tells) earlier less)),
      some-given (λ (s : MatchScore). RefusesFile (game_at rec s) (score_file prefix s) (Some s) decisions refusal (held (score_file prefix s))) (score_there decisions place) score
          (ap (λ (ds : List Decision). score_there ds place) (sym inv.decisions) ∙ c.in-Some.ensures.own) two,
    )

pub returns-in-Err-clause-reads : goal.returns-in-Err-clause-reads
returns-in-Err-clause-reads g c = reads-both _ _ _ c.loop-place.invariant.reads c.judge_at.ensures.reads

pub returns-clause-told : goal.returns-clause-told
returns-clause-told g c tells =
    let inv = c.loop-place.invariant in
    let prefix = c.args.prefix.now in
    let rec = c.args.rec.now in
    let held = standing (g.F.Files.log c.args.files.now) in
    let list = c.loop-place.analysis in
    all-judged prefix rec held list
    (subst (All (λ (decision : Decision). AreJudged prefix rec held list decision.score)) (sym inv.decisions)
    (whole (AreJudged prefix rec held list) (decisions_in c.args.analysis.now) c.loop-place.place
    (let long = decisions-long c.args.analysis.now in let end = inv.end in let past = c.loop-place-test.false in omega (arith, long, end, past)) (inv.judged tells)))
