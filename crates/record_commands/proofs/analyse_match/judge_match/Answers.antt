use Rattle.std.proofs.Common.{All, IsSomeAnd, Some, sym, subst}
use Rattle.game_record.specs.RightDecisions.{IsRightDecision}
use Rattle.outside_log.specs.Files.{Contents}
use Rattle.outside_log.specs.Log.{standing}
use Rattle.outside_log.proofs.Readings.{reads-before, reads-both, reads-same}
use Rattle.record_study.specs.Keeping.{decisions_in}
use Rattle.run_endings.specs.Scores.{score_file}
use Rattle.record_commands.specs.ByFile.{RefusesFile}
use Rattle.record_commands.specs.MatchAnalyses.{RestsOnRightPages, IsJudgedByFile, game_at, score_there}
use Rattle.record_commands.specs.Records.{match_length}
use Rattle.record_commands.proofs.Matches.{refused-at}
use Rattle.record_commands.proofs.MatchTruth.{all-in-match, match-true}
use Rattle.record_commands.proofs.analyse_match.judge_match.Goals as goal

pub judge_scores-requires-clause-decisions : goal.judge_scores-requires-clause-decisions
judge_scores-requires-clause-decisions g c = all-in-match c.right_decisions_can_be_judged.ensures c.args.rec.now c.requires.in_match c.args.analysis c.requires.right

pub returns-in-Ok-judge_scores-clause-told : goal.returns-in-Ok-judge_scores-clause-told
returns-in-Ok-judge_scores-clause-told g c tells =
    let rec = c.args.rec.now in
    let prefix = c.args.prefix.now in
    let held = standing (g.F.Files.log c.args.files.now) in
    let list = c.judge_scores.new.analysis in
    let same = c.judge_scores.ensures.decisions in
    let in_match = all-in-match c.right_decisions_can_be_judged.ensures rec c.requires.in_match list (subst (All (IsRightDecision rec)) (sym same) c.requires.right) in
    let judged = subst (λ (h : Contents). All (IsJudgedByFile prefix rec h) list) (reads-same c.check_files.ensures.reads) (c.in-Ok-judge_scores.ensures.told tells) in
    record {
      decisions_are = same;
      judged = judged;
      true = match-true c.enclosing_starts_bound_the_payoffs.ensures rec (match_length rec.stakes) prefix held list in_match judged;
    }

pub returns-in-Err-judge_scores-clause-told : goal.returns-in-Err-judge_scores-clause-told
returns-in-Err-judge_scores-clause-told g c tells =
    let rec = c.args.rec.now in
    let prefix = c.args.prefix.now in
    let held = standing (g.F.Files.log c.args.files.now) in
    let decisions = decisions_in c.args.analysis in
    let refusal = c.in-Err-judge_scores.refusal in
    let (place, before, one) = c.in-Err-judge_scores.ensures.told tells in
    refused-at prefix rec held decisions refusal (c.in-Ok.ensures.told (reads-before c.judge_scores.ensures.reads tells)) place
    (λ earlier less. subst (λ (h : Contents). RestsOnRightPages prefix h decisions (score_there decisions earlier)) (reads-same c.check_files.ensures.reads) (before earlier less))
    (subst (λ (h : Contents). IsSomeAnd (score_there decisions place) (λ score. RefusesFile (game_at rec score) (score_file prefix score) (Some score) decisions refusal (h (score_file prefix score)))) (reads-same c.check_files.ensures.reads) one)

pub returns-in-Ok-judge_scores-clause-reads : goal.returns-in-Ok-judge_scores-clause-reads
returns-in-Ok-judge_scores-clause-reads g c = reads-both _ _ _ c.check_files.ensures.reads c.judge_scores.ensures.reads

pub returns-in-Err-judge_scores-clause-reads : goal.returns-in-Err-judge_scores-clause-reads
returns-in-Err-judge_scores-clause-reads g c = reads-both _ _ _ c.check_files.ensures.reads c.judge_scores.ensures.reads
