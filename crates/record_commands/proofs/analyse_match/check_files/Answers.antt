use Rattle.std.proofs.Common.{sym, subst, arith}
use Rattle.cube_actions.specs.Scores.{MatchScore}
use Rattle.outside_log.specs.Files.{Contents}
use Rattle.outside_log.specs.Log.{standing}
use Rattle.outside_log.proofs.Readings.{reads-before, reads-both, reads-same}
use Rattle.record_study.specs.Keeping.{decisions_in}
use Rattle.record_study.proofs.Matches.{some-given}
use Rattle.run_endings.specs.Scores.{score_file}
use Rattle.record_commands.specs.ByFile.{RefusesFront}
use Rattle.record_commands.specs.MatchAnalyses.{HasFile, game_at, score_there}
use Rattle.record_commands.proofs.ByFile.{Opened}
use Rattle.record_commands.proofs.Matches.{file-there, more, no-new, whole}
use Rattle.record_commands.proofs.Recorded.{decisions-long}
use Rattle.record_commands.proofs.analyse_match.check_files.Goals as goal

pub loop-place-preserved-in_default : goal.loop-place-preserved-in_default
loop-place-preserved-in_default g c =
    let inv = c.loop-place.invariant in
    let held = standing (g.F.Files.log c.args.files.now) in
    let decisions = decisions_in c.args.analysis.now in
    let place = c.loop-place.place in
    record {
      end = inv.end;
      reads = inv.reads;
      later = inv.later;
      right = λ tells.
          more (HasFile c.args.prefix.now c.args.rec.now held) decisions place (inv.right tells)
          (no-new (HasFile c.args.prefix.now c.args.rec.now held) decisions tt place (c.new_score.ensures.none c.in_default.is) (inv.right tells)) _ (omega arith);
    }

pub loop-place-preserved : goal.loop-place-preserved
loop-place-preserved g c =
    let inv = c.loop-place.invariant in
    let held = standing (g.F.Files.log c.args.files.now) in
    let prefix = c.args.prefix.now in
    let rec = c.args.rec.now in
    let score = c.in-Some.score in
    record {
      end = inv.end;
      reads = reads-both _ _ _ inv.reads c.open_at.ensures.reads;
      later = (let one = inv.later in let two = c.open_at.ensures.later in omega (arith, one, two));
      right = λ tells.
          (let opened = subst (λ (h : Contents). Opened (game_at rec score) c.in-Ok._base (h (score_file prefix score))) (reads-same inv.reads) (c.in-Ok.ensures.told tells) in
          more (HasFile prefix rec held) (decisions_in c.args.analysis.now) c.loop-place.place (inv.right (reads-before c.open_at.ensures.reads tells))
          (subst (HasFile prefix rec held) (sym c.in-Some.ensures.own) (file-there prefix rec held score c.in-Ok._base opened)) _ (omega arith));
    }

pub returns-in-Err-clause-told : goal.returns-in-Err-clause-told
returns-in-Err-clause-told g c tells =
    let inv = c.loop-place.invariant in
    let held = standing (g.F.Files.log c.args.files.now) in
    let prefix = c.args.prefix.now in
    let rec = c.args.rec.now in
    let score = c.in-Some.score in
    let refusal = c.in-Err.refusal in
    record {
      place = c.loop-place.place;
      first = inv.right (reads-before c.open_at.ensures.reads tells);
      cause = some-given (λ (s : MatchScore). RefusesFront (game_at rec s) (score_file prefix s) refusal (held (score_file prefix s))) (score_there (decisions_in c.args.analysis.now) c.loop-place.place) score c.in-Some.ensures.own
          (subst (λ (h : Contents). RefusesFront (game_at rec score) (score_file prefix score) refusal (h (score_file prefix score))) (reads-same inv.reads) (c.in-Err.ensures.told tells));
    }

pub returns-in-Err-clause-reads : goal.returns-in-Err-clause-reads
returns-in-Err-clause-reads g c = reads-both _ _ _ c.loop-place.invariant.reads c.open_at.ensures.reads

pub returns-clause-told : goal.returns-clause-told
returns-clause-told g c tells =
    let inv = c.loop-place.invariant in
    let held = standing (g.F.Files.log c.args.files.now) in
    whole (HasFile c.args.prefix.now c.args.rec.now held) (decisions_in c.args.analysis.now) c.loop-place.place
    (let long = decisions-long c.args.analysis.now in let end = inv.end in let past = c.loop-place-test.false in omega (arith, long, end, past)) (inv.right tells)
