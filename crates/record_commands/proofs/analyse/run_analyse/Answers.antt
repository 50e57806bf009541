use Rattle.std.proofs.Common.{refl, subst}
use Rattle.outside_log.specs.Log.{standing}
use Rattle.outside_log.proofs.Readings.{reads-before, reads-both, reads-same}
use Rattle.record_commands.proofs.Recorded.{JudgesHeld, judging-refused}
use Rattle.record_commands.proofs.analyse.run_analyse.Goals as goal

pub returns-in-Err-judge_replayed-clause-tells : goal.returns-in-Err-judge_replayed-clause-tells
returns-in-Err-judge_replayed-clause-tells g c =
    let held = standing (g.F.Files.log c.args.files.now) in
    let after = standing (g.F.Files.log c.read_recorded.new.files) in (
      λ told. judging-refused c.args.task.now c.in-Ok.replayed held after (reads-same c.in-Ok.ensures.reads) (rw (c.as_str.ensures) at c.in-Ok.ensures.told (reads-before c.judge_replayed.ensures.reads told)) c.in-Err-judge_replayed.refusal
          (rw (c.as_str-2.ensures) at c.in-Err-judge_replayed.ensures.told told),
      refl,
    )

pub returns-in-Ok-write_shown-clause-tells : goal.returns-in-Ok-write_shown-clause-tells
returns-in-Ok-write_shown-clause-tells g c =
    record {
      list = c.in-Ok-judge_replayed.analysis;
      analysed = record {
        replayed = c.in-Ok.replayed;
        record_file = λ tells. rw (c.as_str.ensures) at c.in-Ok.ensures.told (reads-before c.judge_replayed.ensures.reads tells);
        base_files = λ tells. subst (JudgesHeld c.args.task.now.base c.in-Ok.replayed c.in-Ok-judge_replayed.analysis) (reads-same c.in-Ok.ensures.reads) (rw (c.as_str-2.ensures) at c.in-Ok-judge_replayed.ensures.told tells);
      };
      report = c.in-Ok-write_shown.ensures;
    }

pub returns-clause-tells : goal.returns-clause-tells
returns-clause-tells g c =
    record {
      list = c.in-Ok-judge_replayed.analysis;
      analysed = record {
        replayed = c.in-Ok.replayed;
        record_file = λ tells. rw (c.as_str.ensures) at c.in-Ok.ensures.told (reads-before c.judge_replayed.ensures.reads tells);
        base_files = λ tells. subst (JudgesHeld c.args.task.now.base c.in-Ok.replayed c.in-Ok-judge_replayed.analysis) (reads-same c.in-Ok.ensures.reads) (rw (c.as_str-2.ensures) at c.in-Ok-judge_replayed.ensures.told tells);
      };
      report = (c.in-Err-write_shown.field-0, c.in-Err-write_shown.ensures);
    }

pub returns-in-Err-judge_replayed-clause-reads : goal.returns-in-Err-judge_replayed-clause-reads
returns-in-Err-judge_replayed-clause-reads g c = reads-both _ _ _ c.read_recorded.ensures.reads c.judge_replayed.ensures.reads

pub returns-in-Ok-write_shown-clause-reads : goal.returns-in-Ok-write_shown-clause-reads
returns-in-Ok-write_shown-clause-reads g c = reads-both _ _ _ c.read_recorded.ensures.reads c.judge_replayed.ensures.reads

pub returns-clause-reads : goal.returns-clause-reads
returns-clause-reads g c = reads-both _ _ _ c.read_recorded.ensures.reads c.judge_replayed.ensures.reads
