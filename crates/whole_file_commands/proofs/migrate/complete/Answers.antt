use Rattle.outside_log.specs.Log.{Adds}
use Rattle.whole_file_commands.specs.Migrates.{latest_file, migrated_report}
use Rattle.run_endings.proofs.Completing.{settled}
use Rattle.whole_file_commands.proofs.migrate.complete.Goals as goal

pub returns-in-Ok : goal.returns-in-Ok
returns-in-Ok g c =
    let task = c.args.task.now in
    let base = c.args.base.now in
    let middle = g.F.Files.log c.append_base_by.new.files in
    let adds : Adds task.new (latest_file base) (g.F.Files.log c.args.files.now) middle = rw (c.as_str-name.ensures, c.head.ensures.head, c.words.ensures.words) at c.in-Ok.ensures.adds in
    settled task.new (latest_file base) (migrated_report task base.head) (g.F.Files.log c.args.files.now) middle (g.F.Files.log c.settle.new.files) (g.O.Sink.output c.args.out.now) (g.O.Sink.output c.report-put.new.out)
    c.report-put.result c.settle.result adds (rw (c.head-in-Ok.ensures.head) at c.report-put.ensures) (rw (c.as_str-name.ensures) at c.settle.ensures)
