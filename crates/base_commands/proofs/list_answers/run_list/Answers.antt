use Rattle.outside_log.specs.Log.{standing}
use Rattle.run_endings.specs.Endings.{IsPut, WasCut}
use Rattle.base_commands.specs.ListAnswers.{AnswersLine}
use Rattle.base_commands.proofs.ListLaws.{list-put}
use Rattle.base_commands.proofs.list_answers.run_list.Goals as goal

pub returns-in-Ok-clause-tells : goal.returns-in-Ok-clause-tells
returns-in-Ok-clause-tells g c =
    list-put c.args.file.now c.args.list.now (AnswersLine c.args.sought c.args.file.now) _ (standing (g.F.Files.log c.args.files.now)) c.in_ok-report.report.items (IsPut (g.O.Sink.output c.args.out.now) (g.O.Sink.output c.put.new.self)) c.in_ok-report.ensures.told
    (rw (c.as_slice.ensures.value) at c.in-Ok.ensures)

pub returns-clause-tells : goal.returns-clause-tells
returns-clause-tells g c =
    list-put c.args.file.now c.args.list.now (AnswersLine c.args.sought c.args.file.now) _ (standing (g.F.Files.log c.args.files.now)) c.in_ok-report.report.items (WasCut (g.O.Sink.output c.args.out.now) (g.O.Sink.output c.put.new.self)) c.in_ok-report.ensures.told
    (_, rw (c.as_slice.ensures.value) at c.in-Err.ensures)
