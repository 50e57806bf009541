use Rattle.std.proofs.Common.{refl, ap}
use Rattle.outside_log.specs.Log.{GivenUp}
use Rattle.memory_files.specs.Disks.{disk_in}
use Rattle.memory_files.proofs.TellsLemmas.{tells-more}
use Rattle.memory_files.proofs.mem_files.MemFilesFiles.give_up.Goals as goal

pub invariant_of-self : goal.invariant_of-self
invariant_of-self c = tells-more c.self.inside _ (GivenUp c.args.name.now) c.self.invariant c.then-self-inside.ensures (ap disk_in c.give_up.ensures) refl refl
