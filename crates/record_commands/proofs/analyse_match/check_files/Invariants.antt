use Rattle.std.proofs.Common.{◌≡◌, ◌≤◌, IsTrue, length}
use Rattle.outside_log.specs.Log.{standing}
use Rattle.outside_log.specs.Readings.{ReadsOn, is_faithful, read_faults}
use Rattle.record_study.specs.Keeping.{decisions_in}
use Rattle.record_commands.specs.MatchAnalyses.{HasFile}
use Rattle.record_commands.proofs.Matches.{UpTo}
use Rattle.record_commands.proofs.analyse_match.check_files.Given as goal

-- the files of the decisions so far are right as far as their pages
abbrev pub invariant-loop-place : goal.invariant-loop-place
invariant-loop-place g l =
    let held = standing (g.F.Files.log l.fn.files) in
    record {
      end : l.place-end ≡ length l.analysis;
      reads : ReadsOn (g.F.Files.log l.fn.files) (g.F.Files.log l.files);
      later : read_faults (g.F.Files.log l.fn.files) ≤ read_faults (g.F.Files.log l.files);
      right : IsTrue (is_faithful (g.F.Files.log l.files)) → UpTo (HasFile l.prefix l.rec held) (decisions_in l.analysis) l.place;
    }
