use Rattle.std.proofs.Common.{◌≡◌, ◌∙◌, refl, sym, ap, subst}
use Rattle.database_file.specs.Faults.{pages_behind}
use Rattle.database_file.specs.Pages.{ArePages}
use Rattle.database_file.specs.Paged.{digest_told}
use Rattle.database_file.specs.PagedFiles.{PagedFile}
use Rattle.database_file.proofs.Bases.{pages-valid}
use Rattle.database_file.proofs.PagedLooks.{of-file}
use Rattle.outside_log.specs.Log.{standing}
use Rattle.outside_log.specs.Readings.{is_faithful}
use Rattle.outside_log.proofs.Readings.{reads-before, reads-file}
use Rattle.database_file.proofs.paged.PagedBase.keep_pages.Goals as goal

pub keep_all-requires-clause-pages : goal.keep_all-requires-clause-pages
keep_all-requires-clause-pages g c κs within = subst ArePages (sym c.pages_behind-pages.ensures) (pages-valid c.self.inside.front.header c.self.inside.front.digest c.self.invariant.valid)

pub keep_all-requires-clause-of_file : goal.keep_all-requires-clause-of_file
keep_all-requires-clause-of_file g c κs within =
    let base = c.args.self.now in
    let held = standing (g.F.Files.log c.args.files.now) in
    let view = c.self.view_is in
    let name = c.as_str-name.ensures.value ∙ ap (λ (file : PagedFile). file.name) view in
    of-file c.pages_behind-pages.result (pages_behind base.header base.digest) (is_faithful (g.F.Files.log c.args.files.now)) (held c.as_str-name.result.now) (held base.name) c.self.inside.kept.entries base.kept
    (c.pages_behind-pages.ensures ∙ ap (λ (file : PagedFile). pages_behind file.header file.digest) view) (ap held name) (ap (λ (file : PagedFile). file.kept) view) c.requires.of_file.pages

pub returns-clause-of_file : goal.returns-clause-of_file
returns-clause-of_file g c =
    let base = c.args.self.now in
    let held = standing (g.F.Files.log c.keep_all.new.files) in
    record {
      digest = λ tells.
          let told = reads-before c.keep_all.ensures.reads tells in
          subst (λ (file : PagedFile). file.digest ≡ digest_told file.header (held file.name)) (sym c.self.view_is)
          (c.requires.of_file.digest told ∙ ap (digest_told base.header) (sym (reads-file c.keep_all.ensures.reads base.name)));
      pages = of-file (pages_behind c.self.inside.front.header c.self.inside.front.digest) c.pages_behind-pages.result (is_faithful (g.F.Files.log c.keep_all.new.files)) (held _) (held c.as_str-name.result.now) c.keep_all.new.kept.entries c.keep_all.new.kept.entries
          (sym c.pages_behind-pages.ensures) (ap held (sym c.as_str-name.ensures.value)) refl c.keep_all.ensures.of_file;
    }
