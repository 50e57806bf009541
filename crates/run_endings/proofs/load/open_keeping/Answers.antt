use Rattle.outside_log.specs.Log.{standing}
use Rattle.run_endings.proofs.Loaded.{not-opened}
use Rattle.run_endings.proofs.load.open_keeping.Goals as goal

pub returns-in-Err-clause-told : goal.returns-in-Err-clause-told
returns-in-Err-clause-told g c told =
    not-opened c.args.name.now (standing (g.F.Files.log c.args.files.now) c.args.name.now) c.in-Err.stop c.stop_refusal.result (c.in-Err.ensures.told told) c.stop_refusal.ensures.tells
