use Rattle.std.proofs.Common.{ap, subst, sym}
use Rattle.directed_fixed.specs.declared.bounds.End.TheVariants.{Upper}
use Rattle.base_head.specs.Headers.{IsHeader}
use Rattle.outside_log.specs.Files.{Contents}
use Rattle.outside_log.specs.Log.{standing}
use Rattle.outside_log.specs.Readings.{is_faithful, read_faults}
use Rattle.outside_log.proofs.Readings.{reads-before, reads-both, reads-same}
use Rattle.database_file.specs.Paged.{AnswersLook}
use Rattle.database_file.specs.PagedFiles.{PagedFile}
use Rattle.database_file.proofs.PagedLooks.{looked, source-same}
use Rattle.database_file.proofs.PagedWords.{told-within}
use Rattle.database_file.proofs.paged.PagedReaderPairs.upper_of.Goals as goal

pub invariant_of-self : goal.invariant_of-self
invariant_of-self g c =
    let reader = c.args.self.now in
    let base = c.look.new.self in
    record {
      reads = reads-both _ _ _ reader.reads c.look.ensures.reads;
      of_file = c.look.ensures.of_file;
      within = told-within base.header (standing reader.from.events base.name) (subst IsHeader (sym (ap (λ (file : PagedFile). file.header) c.look.ensures.kept)) c.look.ensures.valid);
    }

pub returns-clause-looked : goal.returns-clause-looked
returns-clause-looked g c =
    let reader = c.args.self.now in
    let files = reader.files.now in
    let after = c.look.new.files in
    let base = reader.base.now in
    looked base c.look.new.self (standing reader.from.events) c.look.ensures.kept (is_faithful (g.F.Files.log files)) (is_faithful (g.F.Files.log after)) (reads-before c.look.ensures.reads)
    Upper c.args.position.now c.args.kind (read_faults (g.F.Files.log files)) (read_faults (g.F.Files.log after)) c.look.result c.look.ensures.later c.look.ensures.cause c.look.ensures.within
    (λ all. subst (λ (held : Contents). AnswersLook base.header (held base.name) Upper c.args.position.now c.args.kind c.look.result) (reads-same reader.reads) (c.look.ensures.told all))

pub returns-clause-source : goal.returns-clause-source
returns-clause-source g c = source-same c.args.self.now.base.now c.look.new.self (standing c.args.self.now.from.events) c.look.ensures.kept

pub returns-clause-stays : goal.returns-clause-stays
returns-clause-stays g c =
    let kept = c.look.ensures.kept in
    λ i. record {
      header = (kept i).header;
      head = (kept i).head;
      digest = (kept i).digest;
      name = (kept i).name;
      most = (kept i).most;
      from = c.args.self.now.from.events;
      base = c.args.self.now.base.ghost_name;
      lent = c.args.self.now.files.ghost_name;
    }
