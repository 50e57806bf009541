use Rattle.std.proofs.Common.{rules, ◌≡◌, ◌∙◌, ℕ, List, [], ◌∷◌, ◌++◌, IfOk, length, refl, sym, subst, ap}
use Rattle.outside_log.specs.Files.{Reads}
use Rattle.outside_log.specs.Log.{Event, standing}
use Rattle.outside_log.specs.Readings.{read_event}
use Rattle.outside_log.proofs.Readings.{read-faithful}
use Rattle.memory_files.specs.Disks.{disk_in}
use Rattle.memory_files.specs.MemFiles.{DemandingFiles}
use Rattle.memory_files.proofs.TellsLemmas.{same-read, tells-more}
use Rattle.memory_files.proofs.mem_files.MemFilesFiles.read_at.Goals as goal

pub invariant_of-self : goal.invariant_of-self
invariant_of-self c =
    let name = c.args.name.now in
    let at = c.args.at in
    let buf = c.copy_from-answer.new.buf in
    let answer = c.copy_from-answer.result in
    let even : length buf ≡ length c.args.buf.now = search rules in
    let log_is = sym (ap (λ (files : DemandingFiles). files.log) (c.self.view_is ∙ c.copy_from-answer.ensures.after)) in
    let right = subst (λ (log : List Event). IfOk answer (Reads (standing log name) at c.args.buf.now buf)) log_is c.copy_from-answer.ensures.reads in
    let grown = subst (λ (room : ℕ). c.then_read-self-inside.result.events ≡ c.self.inside.log.events ++ read_event name at room buf answer ∷ []) even c.then_read-self-inside.ensures in
    tells-more c.self.inside _ (read_event name at (length c.args.buf.now) buf answer) c.self.invariant grown (same-read (disk_in c.self.inside.disk) name at (length c.args.buf.now) buf answer)
    (read-faithful (standing c.self.inside.log.events) name at c.args.buf.now buf answer even right) refl

pub returns-clause-faithful : goal.returns-clause-faithful
returns-clause-faithful c = (invariant_of-self c).faithful
