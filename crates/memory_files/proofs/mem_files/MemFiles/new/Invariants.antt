use Rattle.std.proofs.Common.{[]}
use Rattle.memory_files.proofs.mem_files.MemFiles.new.Given as goal

-- nothing stood there
abbrev pub ghost-new : goal.ghost-new
ghost-new a = []
