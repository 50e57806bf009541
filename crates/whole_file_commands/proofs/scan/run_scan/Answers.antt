use Rattle.std.proofs.Common.{inl, refl}
use Rattle.whole_file_commands.proofs.ScanFiles.{has-scanned}
use Rattle.whole_file_commands.proofs.scan.run_scan.Goals as goal

pub returns-in-Err-clause-tells : goal.returns-in-Err-clause-tells
returns-in-Err-clause-tells g c = ((_, λ told. refl, inl (record { word = c.in-Err.bad.word; first = rw (c.as_str.ensures) at c.in-Err.ensures.bad; line = refl })), refl)

pub returns-in-Ok-write_scan-clause-tells : goal.returns-in-Ok-write_scan-clause-tells
returns-in-Ok-write_scan-clause-tells g c =
    has-scanned c.args.task.now _ _ c.in-Ok.condition (rw (c.as_str.ensures) at c.in-Ok.ensures.condition) c.in_ok-base.base (rw (c.as_str-name.ensures) at c.in_ok-base.ensures.told)
    c.words.result.now c.words.ensures.words c.in-Ok-scan.found c.in-Ok-scan.ensures.found c.in-Ok-scan.ensures.right _ (rw (c.words-2.ensures.words) at c.in-Ok-write_scan.ensures)

pub returns-clause-tells : goal.returns-clause-tells
returns-clause-tells g c =
    has-scanned c.args.task.now _ _ c.in-Ok.condition (rw (c.as_str.ensures) at c.in-Ok.ensures.condition) c.in_ok-base.base (rw (c.as_str-name.ensures) at c.in_ok-base.ensures.told)
    c.words.result.now c.words.ensures.words c.in-Ok-scan.found c.in-Ok-scan.ensures.found c.in-Ok-scan.ensures.right _ (_, rw (c.words-2.ensures.words) at c.in-Err-write_scan.ensures)
