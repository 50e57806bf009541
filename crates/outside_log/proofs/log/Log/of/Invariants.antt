use Rattle.outside_log.proofs.log.Log.of.Given as goal

abbrev pub ghost-new : goal.ghost-new
ghost-new g a = g.events
