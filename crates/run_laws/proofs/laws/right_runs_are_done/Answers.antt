use Rattle.run_laws.proofs.RightRuns.{right-run}
use Rattle.run_laws.proofs.laws.right_runs_are_done.Goals as goal

pub returns : goal.returns
returns c = λ command before after old new status ending answered right runs.
    let files = c.right_files_are_not_refused.ensures in
    let records = c.right_records_are_not_refused.ensures in
    right-run
    (record { show = files.show; list = files.list; advise = files.advise; verify = files.verify; migrate = files.migrate; scan = files.scan; reply = files.reply; plan = files.plan })
    (record { study = records.study; analyse = records.analyse })
    command before after old new answered right status ending runs
