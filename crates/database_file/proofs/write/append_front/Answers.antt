use Rattle.std.proofs.Common.{List, ℕ, Ok, Err, arith}
use Rattle.hyper_outside.specs.declared.outside.Failed.{Failed}
use Rattle.outside_log.proofs.Logs.{added-once, failed}
use Rattle.base_head.specs.Fronts.{front_text}
use Rattle.database_file.proofs.Fronts.{front-short}
use Rattle.database_file.proofs.write.append_front.Goals as goal

pub put_front-digest-requires : goal.put_front-digest-requires
put_front-digest-requires g c = (omega arith, (c.new-bytes.ensures, (front-short c.args.version c.args.head.now c.starts-starts.ensures.valid c.requires, c.requires)))

pub returns-in_err-append-clause-adds : goal.returns-in_err-append-clause-adds
returns-in_err-append-clause-adds g c =
    let old = g.F.Files.log c.args.files.now in
    let new = g.F.Files.log c.append.new.self in
    let once = added-once {T = Unit {0}} {E = Failed} c.args.name.now (front_text c.args.version c.args.head.now) old new (Err c.in_err-append.field-0.0) c.in_err-append.ensures in
    failed c.args.name.now (front_text c.args.version c.args.head.now) old new c.from_residual.result c.from_residual.ensures.0 once.leaves once.cause.later once.cause.failed

pub returns-clause-adds : goal.returns-clause-adds
returns-clause-adds g c =
    let old = g.F.Files.log c.args.files.now in
    let new = g.F.Files.log c.append.new.self in
    added-once {T = List ℕ} {E = Failed} c.args.name.now (front_text c.args.version c.args.head.now) old new (Ok c.put_front-digest.result) (rw (c.as_slice.ensures.value, c.put_front-digest.ensures.text) at c.in_ok-append.ensures)
