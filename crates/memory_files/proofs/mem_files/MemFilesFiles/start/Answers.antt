use Rattle.std.proofs.Common.{refl}
use Rattle.outside_log.specs.Log.{Started, event_of}
use Rattle.memory_files.proofs.TellsLemmas.{asks-nothing, tells-more}
use Rattle.memory_files.proofs.mem_files.MemFilesFiles.start.Goals as goal

pub invariant_of-self-2 : goal.invariant_of-self-2
invariant_of-self-2 c = tells-more c.self.inside _ (event_of (Started c.args.name.now) c.args.name.now c.start-answer.result) c.self.invariant c.then_answer-self-inside.ensures c.start-answer.ensures (asks-nothing _ (Started c.args.name.now) c.args.name.now c.start-answer.result refl) refl
