use Rattle.std.proofs.Common.{ap}
use Rattle.std.proofs.lemmas.Result.{err_from_is_err_and}
use Rattle.outside_log.specs.Log.{Failed}
use Rattle.outside_log.proofs.Logs.{leaves-one}
use Rattle.memory_files.specs.MemFiles.{DemandingFiles}
use Rattle.memory_files.proofs.TellsLemmas.{cannot-append, cannot-finish}
use Rattle.memory_files.proofs.mem_files.MemFiles.write.Goals as goal

pub returns-in_err-start-clause-err : goal.returns-in_err-start-clause-err
returns-in_err-start-clause-err c =
    let fails = ap (λ (files : DemandingFiles). files.log) c.in_err-start.ensures.after in
    let is_err = err_from_is_err_and c.from_residual.result c.from_residual.ensures.1 in
    rw is_err.1 (leaves-one c.args.self.now.log c.start.new.self.log (Failed c.args.name.now) tt fails)

pub returns-in_err-append-clause-err : goal.returns-in_err-append-clause-err
returns-in_err-append-clause-err c =
    let name = c.args.name.now in
    let begun = ap (λ (files : DemandingFiles). files.log) c.in_ok-start.ensures.after in
    let fails = ap (λ (files : DemandingFiles). files.log) c.in_err-append.ensures.after in
    let is_err = err_from_is_err_and c.from_residual-in_err-append.result c.from_residual-in_err-append.ensures.1 in
    rw is_err.1 (cannot-append name c.args.self.now.log c.start.new.self.log c.append.new.self.log begun fails)

pub returns-clause-err : goal.returns-clause-err
returns-clause-err c =
    cannot-finish c.args.name.now c.args.bytes.now c.args.self.now.log c.start.new.self.log c.append.new.self.log c.finish.new.self.log c.finish.result
    (ap (λ (files : DemandingFiles). files.log) c.in_ok-start.ensures.after)
    (ap (λ (files : DemandingFiles). files.log) c.in_ok-append.ensures.after)
    (ap (λ (files : DemandingFiles). files.log) c.finish.ensures.after)
