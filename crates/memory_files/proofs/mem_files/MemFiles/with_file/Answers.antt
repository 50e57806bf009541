use Rattle.std.proofs.Common.{◌∙◌, ap}
use Rattle.outside_log.specs.Log.{standing}
use Rattle.memory_files.specs.MemFiles.{DemandingFiles}
use Rattle.outside_log.proofs.Logs.{stay}
use Rattle.memory_files.proofs.mem_files.MemFiles.with_file.Goals as goal
use Rattle.memory_files.proofs.mem_files.MemFiles.with_file.Goals.{in-Ok, in-Err}

pub returns-clause-files : goal.returns-clause-files
returns-clause-files c = elim c.match-answer.branch [
  | in-Ok w ↦ rw w.result-is tt
  | in-Err w ↦ rw w.result-is (λ other. ap (λ (files : DemandingFiles). standing files.log other) c.self-2.view_is
      ∙ stay _ _ w.in-Err.ensures.err other
      ∙ ap (λ (files : DemandingFiles). standing files.log other) c.self.view_is)
]
