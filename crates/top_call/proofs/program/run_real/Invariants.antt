use Rattle.top_call.proofs.program.run_real.Given as goal

-- any files may have stood there
abbrev pub ghost-new : goal.ghost-new
ghost-new g a = g.found
