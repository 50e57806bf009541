use Rattle.std.proofs.Common.{◌≡◌, ◌≤◌, length}
use Rattle.database_file.specs.Paged.{KeepsPagesOf}
use Rattle.outside_log.specs.Log.{standing}
use Rattle.outside_log.specs.Readings.{ReadsOn, is_faithful, read_faults}
use Rattle.base_commands.specs.ListAnswers.{AnswersLine}
use Rattle.base_commands.proofs.ListLaws.{HasAnswered}
use Rattle.base_commands.proofs.list_answers.answer_lines.Given as goal

abbrev pub invariant-lines : goal.invariant-lines
invariant-lines g l = record {
  answered : HasAnswered (AnswersLine l.sought l.fn.base.name) l.fn.base (standing (g.F.Files.log l.fn.files) l.fn.base.name) (is_faithful (g.F.Files.log l.files)) l.list l.rest l.fn.report.items l.report.items;
  base : l.base ≡ record l.fn.base { kept = l.base.kept };
  of_file : KeepsPagesOf l.base (g.F.Files.log l.files);
  later : read_faults (g.F.Files.log l.fn.files) ≤ read_faults (g.F.Files.log l.files);
  reads : ReadsOn (g.F.Files.log l.fn.files) (g.F.Files.log l.files);
}

abbrev pub decreases-lines : goal.decreases-lines
decreases-lines g l = length l.rest
