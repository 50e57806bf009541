use Rattle.std.proofs.Common.{refl}
use Rattle.outside_log.specs.Log.{Appended, event_of}
use Rattle.memory_files.proofs.TellsLemmas.{asks-nothing, tells-more}
use Rattle.memory_files.proofs.mem_files.MemFilesFiles.append.Goals as goal

pub invariant_of-self-2 : goal.invariant_of-self-2
invariant_of-self-2 c = tells-more c.self.inside _ (event_of (Appended c.args.name.now c.args.bytes.now) c.args.name.now c.append-answer.result) c.self.invariant c.then_answer-self-inside.ensures c.append-answer.ensures.after (asks-nothing _ (Appended c.args.name.now c.args.bytes.now) c.args.name.now c.append-answer.result refl) refl
