use Rattle.std.proofs.Common.{◌∙◌, ap}
use Rattle.top_call.proofs.program.run_real.Goals as goal

pub returns : goal.returns
returns g c =
    let (ending, runs, untouched, note) = c.run-status.ensures in
    (ending, rw (c.new-files.ensures.log, c.new-out.ensures.output) at runs, λ leaves. ap (λ files. files.log.events) (untouched leaves) ∙ c.new-files.ensures.log, rw (c.new-notes.ensures.output) at note)
