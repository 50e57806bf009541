use Rattle.std.proofs.Common.{List, subst, sym}
use Rattle.outside_log.specs.Readings.{ReadsOn}
use Rattle.database_file.specs.Paged.{IsPagedFile}
use Rattle.database_file.specs.PagedFiles.{PagedFile}
use Rattle.database_file.proofs.PagedWords.{source-of-head, told-within}
use Rattle.outside_log.specs.Log.{Event, standing}
use Rattle.outside_log.proofs.Readings.{reads-none}
use Rattle.database_file.proofs.paged.PagedBase.reader.Goals as goal

pub invariant_of-result : goal.invariant_of-result
invariant_of-result g c =
    let base = c.args.self.now in
    let is = subst (λ (file : PagedFile). IsPagedFile file.header file.head file.digest c.self.inside.index file.kept) c.self.view_is c.self.invariant in
    record { reads = subst (λ (log : List Event). ReadsOn log (g.F.Files.log c.args.files.now)) (sym c.of-from.ensures) (reads-none (g.F.Files.log c.args.files.now)); of_file = c.requires; within = told-within base.header (standing c.of-from.result.events base.name) is.valid }

pub returns-clause-game : goal.returns-clause-game
returns-clause-game g c =
    let base = c.args.self.now in
    let is = subst (λ (file : PagedFile). IsPagedFile file.header file.head file.digest c.self.inside.index file.kept) c.self.view_is c.self.invariant in
    source-of-head base c.self.inside.index (standing (g.F.Files.log c.args.files.now)) is
