use Rattle.std.proofs.Common.{[], ◌∷◌}
use Rattle.outside_log.specs.Log.{Found}
use Rattle.system_files.proofs.real_files.RealFiles.new.Given as goal

-- any files may have stood there
abbrev pub ghost-new : goal.ghost-new
ghost-new g a = Found g.found ∷ []
