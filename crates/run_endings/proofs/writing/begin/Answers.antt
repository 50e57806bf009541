use Rattle.std.proofs.Common.{Err, arith}
use Rattle.hyper_outside.specs.declared.outside.Failed.{Failed}
use Rattle.outside_log.specs.Log.{Started, standing}
use Rattle.outside_log.specs.Readings.{is_faithful}
use Rattle.outside_log.proofs.Logs.{cause-of, leaves-one}
use Rattle.outside_log.proofs.Readings.{leaves-faults}
use Rattle.run_endings.proofs.Beginning.{begun-file, begun-leaves, begun-may, begun-reads, begun-told, leaves-failures}
use Rattle.run_endings.proofs.writing.begin.Goals as goal

pub returns-in-Ok-clause-begun : goal.returns-in-Ok-clause-begun
returns-in-Ok-clause-begun g c = begun-reads c.args.name.now (g.F.Files.log c.args.files.now) (g.F.Files.log c.start.new.self) (g.F.Files.log c.look.new.files) c.in-Ok.ensures c.look.result c.look.ensures.stays

pub returns-in-Ok-clause-leaves : goal.returns-in-Ok-clause-leaves
returns-in-Ok-clause-leaves g c = begun-leaves c.args.name.now (g.F.Files.log c.args.files.now) (g.F.Files.log c.start.new.self) (g.F.Files.log c.look.new.files) c.in-Ok.ensures c.look.ensures.leaves

pub returns-in-Ok-clause-may : goal.returns-in-Ok-clause-may
returns-in-Ok-clause-may g c =
    let same = begun-file c.args.name.now (g.F.Files.log c.args.files.now) (g.F.Files.log c.start.new.self) (g.F.Files.log c.look.new.files) c.in-Ok.ensures c.args.name.now in
    begun-may c.args.start.now c.args.name.now (is_faithful (g.F.Files.log c.look.new.files)) (standing (g.F.Files.log c.args.files.now) c.args.name.now) (standing (g.F.Files.log c.start.new.self) c.args.name.now) same c.look.result c.look.ensures.may

pub returns-in-Ok-clause-told : goal.returns-in-Ok-clause-told
returns-in-Ok-clause-told g c =
    let same = begun-file c.args.name.now (g.F.Files.log c.args.files.now) (g.F.Files.log c.start.new.self) (g.F.Files.log c.look.new.files) c.in-Ok.ensures c.args.name.now in
    begun-told c.args.start.now c.args.name.now (is_faithful (g.F.Files.log c.look.new.files)) (standing (g.F.Files.log c.args.files.now) c.args.name.now) (standing (g.F.Files.log c.start.new.self) c.args.name.now) same c.look.result c.look.ensures.told

pub returns-in-Ok-clause-later : goal.returns-in-Ok-clause-later
returns-in-Ok-clause-later g c = leaves-failures (begun-leaves c.args.name.now (g.F.Files.log c.args.files.now) (g.F.Files.log c.start.new.self) (g.F.Files.log c.look.new.files) c.in-Ok.ensures c.look.ensures.leaves)

pub returns-in-Ok-clause-read_later : goal.returns-in-Ok-clause-read_later
returns-in-Ok-clause-read_later g c = leaves-faults (begun-leaves c.args.name.now (g.F.Files.log c.args.files.now) (g.F.Files.log c.start.new.self) (g.F.Files.log c.look.new.files) c.in-Ok.ensures c.look.ensures.leaves)

pub returns-in-Err-clause-leaves : goal.returns-in-Err-clause-leaves
returns-in-Err-clause-leaves g c = leaves-one _ _ _ tt c.in-Err.ensures

pub returns-in-Err-clause-read_later : goal.returns-in-Err-clause-read_later
returns-in-Err-clause-read_later g c = leaves-faults (leaves-one _ _ _ tt c.in-Err.ensures)

pub returns-in-Err-clause-later : goal.returns-in-Err-clause-later
returns-in-Err-clause-later g c =
    (cause-of {T = Unit {0}} {E = Failed} (g.F.Files.log c.args.files.now) (g.F.Files.log c.start.new.self) (Started c.args.name.now) c.args.name.now (Err c.in-Err.field-0) c.in-Err.ensures).later

pub returns-in-Err-clause-write_cause : goal.returns-in-Err-clause-write_cause
returns-in-Err-clause-write_cause g c is =
    (cause-of {T = Unit {0}} {E = Failed} (g.F.Files.log c.args.files.now) (g.F.Files.log c.start.new.self) (Started c.args.name.now) c.args.name.now (Err c.in-Err.field-0) c.in-Err.ensures).failed

pub returns-in-Ok-clause-read_cause : goal.returns-in-Ok-clause-read_cause
returns-in-Ok-clause-read_cause g c is =
    let first = leaves-faults (leaves-one _ _ (Started c.args.name.now) tt c.in-Ok.ensures) in
    let rose = c.look.ensures.read_cause is in
    omega (arith, first, rose)
