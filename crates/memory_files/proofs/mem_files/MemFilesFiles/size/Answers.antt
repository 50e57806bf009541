use Rattle.std.proofs.Common.{◌≡◌, ◌∙◌, List, IfOk, length, refl, sym, subst, ap}
use Rattle.std.specs.Option.{option_map}
use Rattle.outside_log.specs.Log.{Event, standing}
use Rattle.outside_log.specs.Readings.{sized_event}
use Rattle.outside_log.proofs.Readings.{size-faithful}
use Rattle.memory_files.specs.Disks.{disk_in}
use Rattle.memory_files.specs.MemFiles.{DemandingFiles}
use Rattle.memory_files.proofs.TellsLemmas.{same-sized, tells-more}
use Rattle.memory_files.proofs.mem_files.MemFilesFiles.size.Goals as goal

pub invariant_of-self : goal.invariant_of-self
invariant_of-self c =
    let name = c.args.name.now in
    let answer = c.find_size-answer.result in
    let log_is = sym (ap (λ (files : DemandingFiles). files.log) (c.self.view_is ∙ c.find_size-answer.ensures.after)) in
    let right = subst (λ (log : List Event). IfOk answer (λ size. size ≡ option_map length (standing log name))) log_is c.find_size-answer.ensures.size in
    tells-more c.self.inside _ (sized_event name answer) c.self.invariant c.then_size-self-inside.ensures (same-sized (disk_in c.self.inside.disk) name answer)
    (size-faithful (standing c.self.inside.log.events) name answer right) refl

pub returns-clause-faithful : goal.returns-clause-faithful
returns-clause-faithful c = (invariant_of-self c).faithful
