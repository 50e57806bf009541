use Rattle.std.proofs.Common.{refl}
use Rattle.outside_log.specs.Log.{Finished, event_of}
use Rattle.memory_files.proofs.TellsLemmas.{asks-nothing, tells-more}
use Rattle.memory_files.proofs.mem_files.MemFilesFiles.finish.Goals as goal

pub invariant_of-self-2 : goal.invariant_of-self-2
invariant_of-self-2 c = tells-more c.self.inside _ (event_of (Finished c.args.name.now) c.args.name.now c.finish-answer.result) c.self.invariant c.then_answer-self-inside.ensures c.finish-answer.ensures.after (asks-nothing _ (Finished c.args.name.now) c.args.name.now c.finish-answer.result refl) refl
