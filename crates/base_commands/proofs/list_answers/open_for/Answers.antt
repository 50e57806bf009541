use Rattle.outside_log.specs.Log.{standing}
use Rattle.outside_log.proofs.Readings.{leaves-faults, reads-before, reads-both, reads-leave}
use Rattle.base_commands.proofs.ListLaws.{opened-still}
use Rattle.base_commands.proofs.list_answers.open_for.Goals as goal

pub returns-clause-told : goal.returns-clause-told
returns-clause-told g c tells =
    opened-still c.args.name.now (standing (g.F.Files.log c.args.files.now) c.args.name.now) c.in_ok-base.base c.keep_for.new.base c.keep_for.ensures.kept (c.in_ok-base.ensures.told (reads-before c.keep_for.ensures.reads tells))

pub returns-clause-reads : goal.returns-clause-reads
returns-clause-reads g c = reads-both _ _ _ c.in_ok-base.ensures.reads c.keep_for.ensures.reads

pub returns-clause-later : goal.returns-clause-later
returns-clause-later g c = leaves-faults (reads-leave (reads-both _ _ _ c.in_ok-base.ensures.reads c.keep_for.ensures.reads))
