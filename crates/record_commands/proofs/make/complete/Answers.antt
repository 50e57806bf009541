use Rattle.std.proofs.Common.{Err}
use Rattle.hyper_outside.specs.declared.outside.Failed.{Failed}
use Rattle.outside_log.specs.Log.{Adds}
use Rattle.outside_log.proofs.Logs.{added-once, adds-one}
use Rattle.record_commands.specs.Makes.{made_report}
use Rattle.run_endings.proofs.Completing.{not-added, settled}
use Rattle.record_commands.proofs.make.complete.Goals as goal

pub returns-in-Err : goal.returns-in-Err
returns-in-Err g c =
    let name = c.args.name.now in
    let text = c.args.made.now.text.items in
    let before = g.F.Files.log c.args.files.now in
    let after = g.F.Files.log c.append.new.self in
    not-added name text (made_report c.args.made.now) before after (g.O.Sink.output c.args.out.now) c.in-Err.failed (added-once {T = Unit {0}} {E = Failed} name text before after (Err c.in-Err.failed) c.in-Err.ensures)

pub returns : goal.returns
returns g c =
    let name = c.args.name.now in
    let text = c.args.made.now.text.items in
    let before = g.F.Files.log c.args.files.now in
    let middle = g.F.Files.log c.append.new.self in
    let adds : Adds name text before middle = adds-one name text before middle (rw (c.as_slice.ensures.value) at c.in-Ok.ensures) in
    settled name text (made_report c.args.made.now) before middle (g.F.Files.log c.settle.new.files) (g.O.Sink.output c.args.out.now) (g.O.Sink.output c.report-put.new.out)
    c.report-put.result c.settle.result adds c.report-put.ensures c.settle.ensures
