use Rattle.std.proofs.Common.{◌≡◌, ◌≤◌, IsTrue, length}
use Rattle.outside_log.specs.Log.{standing}
use Rattle.outside_log.specs.Readings.{ReadsOn, is_faithful, read_faults}
use Rattle.record_study.specs.Keeping.{decisions_in}
use Rattle.record_commands.proofs.Matches.{AreJudged, UpTo}
use Rattle.record_commands.proofs.analyse_match.judge_scores.Given as goal

-- the decisions at the scores so far were judged
abbrev pub invariant-loop-place : goal.invariant-loop-place
invariant-loop-place g l =
    let held = standing (g.F.Files.log l.fn.files) in
    record {
      end : l.place-end ≡ length l.fn.analysis;
      decisions : decisions_in l.analysis ≡ decisions_in l.fn.analysis;
      reads : ReadsOn (g.F.Files.log l.fn.files) (g.F.Files.log l.files);
      later : read_faults (g.F.Files.log l.fn.files) ≤ read_faults (g.F.Files.log l.files);
      judged : IsTrue (is_faithful (g.F.Files.log l.files)) → UpTo (AreJudged l.prefix l.rec held l.analysis) (decisions_in l.fn.analysis) l.place;
    }
