use Rattle.std.proofs.lemmas.Result.{err_from_is_err_and}
use Rattle.std.proofs.Common.{◌≡◌, ◌∙◌, Ok, Err, refl, sym, ap, subst}
use Rattle.database_file.specs.Faults.{pages_behind}
use Rattle.database_file.specs.Pages.{ArePages}
use Rattle.database_file.specs.Paged.{ArePagesKept, digest_told, pages_told, spot_of}
use Rattle.database_file.specs.PagedFiles.{PagedFile}
use Rattle.database_file.specs.declared.pages.Pages.{Pages}
use Rattle.database_file.proofs.Bases.{pages-valid}
use Rattle.database_file.proofs.PagedLooks.{look-stopped, moved-answer, of-file}
use Rattle.outside_log.specs.Log.{standing}
use Rattle.outside_log.specs.Readings.{is_faithful}
use Rattle.outside_log.proofs.Readings.{reads-before, reads-file}
use Rattle.database_file.proofs.paged.PagedBase.look.Goals as goal

pub word_on-requires-clause-pages : goal.word_on-requires-clause-pages
word_on-requires-clause-pages g c = subst ArePages (sym c.pages_behind-pages.ensures) (pages-valid c.self.inside.front.header c.self.inside.front.digest c.self.invariant.valid)

pub word_on-requires-clause-of_file : goal.word_on-requires-clause-of_file
word_on-requires-clause-of_file g c =
    let base = c.args.self.now in
    let held = standing (g.F.Files.log c.args.files.now) in
    let view = c.self.view_is in
    let name = c.as_str.ensures.value ∙ ap (λ (file : PagedFile). file.name) view in
    of-file c.pages_behind-pages.result (pages_behind base.header base.digest) (is_faithful (g.F.Files.log c.args.files.now)) (held c.as_str.result.now) (held base.name) c.self.inside.kept.entries base.kept
    (c.pages_behind-pages.ensures ∙ ap (λ (file : PagedFile). pages_behind file.header file.digest) view) (ap held name) (ap (λ (file : PagedFile). file.kept) view) c.requires.of_file.pages

pub returns-in_err-word-clause-told : goal.returns-in_err-word-clause-told
returns-in_err-word-clause-told g c tells =
    let base = c.args.self.now in
    let held = standing (g.F.Files.log c.args.files.now) in
    let view = c.self.view_is in
    let name = c.as_str.ensures.value ∙ ap (λ (file : PagedFile). file.name) view in
    let pages = c.pages_behind-pages.ensures ∙ ap (λ (file : PagedFile). pages_behind file.header file.digest) view ∙ ap (pages_behind base.header) (c.requires.of_file.digest (reads-before c.word_on.ensures.reads tells)) in
    look-stopped base.header (held base.name) c.args.end c.args.position.now c.args.kind c.in_err-word.field-0.0 c.from_residual.result
    (moved-answer held c.pages_behind-pages.result (pages_told base.header (held base.name)) c.as_str.result.now base.name c.spot-spot.result (spot_of base.header.kinds c.args.position.now c.args.kind c.args.end) (Err c.in_err-word.field-0.0) pages name c.spot-spot.ensures.spot (c.in_err-word.ensures.told tells))
    c.from_residual.ensures.1

pub returns-in_err-word-clause-of_file : goal.returns-in_err-word-clause-of_file
returns-in_err-word-clause-of_file g c =
    let base = c.args.self.now in
    let held = standing (g.F.Files.log c.word_on.new.files) in
    record {
      digest = λ tells.
          let told = reads-before c.in_err-word.ensures.reads tells in
          subst (λ (file : PagedFile). file.digest ≡ digest_told file.header (held file.name)) (sym c.self.view_is)
          (c.requires.of_file.digest told ∙ ap (digest_told base.header) (sym (reads-file c.in_err-word.ensures.reads base.name)));
      pages = of-file (pages_behind c.self.inside.front.header c.self.inside.front.digest) c.pages_behind-pages.result (is_faithful (g.F.Files.log c.word_on.new.files)) (held _) (held c.as_str.result.now) c.word_on.new.kept.entries c.word_on.new.kept.entries
          (sym c.pages_behind-pages.ensures) (ap held (sym c.as_str.ensures.value)) refl c.in_err-word.ensures.of_file;
    }

pub invariant_of-self-2 : goal.invariant_of-self-2
invariant_of-self-2 g c =
    let was = c.self.invariant in
    record {
      valid = was.valid;
      checkers = was.checkers;
      name = was.name;
      rounds = was.rounds;
      indexed = was.indexed;
      right = subst (λ (pages : Pages). ArePagesKept pages c.word_on.new.kept.entries) c.pages_behind-pages.ensures c.in_ok-word.ensures.right;
    }

pub returns-clause-told : goal.returns-clause-told
returns-clause-told g c tells =
    let base = c.args.self.now in
    let held = standing (g.F.Files.log c.args.files.now) in
    let view = c.self.view_is in
    let name = c.as_str.ensures.value ∙ ap (λ (file : PagedFile). file.name) view in
    let pages = c.pages_behind-pages.ensures ∙ ap (λ (file : PagedFile). pages_behind file.header file.digest) view ∙ ap (pages_behind base.header) (c.requires.of_file.digest (reads-before c.word_on.ensures.reads tells)) in
    moved-answer held c.pages_behind-pages.result (pages_told base.header (held base.name)) c.as_str.result.now base.name c.spot-spot.result (spot_of base.header.kinds c.args.position.now c.args.kind c.args.end) (Ok c.in_ok-word.word) pages name c.spot-spot.ensures.spot (c.in_ok-word.ensures.told tells)

pub returns-clause-of_file : goal.returns-clause-of_file
returns-clause-of_file g c =
    let base = c.args.self.now in
    let held = standing (g.F.Files.log c.word_on.new.files) in
    record {
      digest = λ tells.
          let told = reads-before c.in_ok-word.ensures.reads tells in
          subst (λ (file : PagedFile). file.digest ≡ digest_told file.header (held file.name)) (sym c.self.view_is)
          (c.requires.of_file.digest told ∙ ap (digest_told base.header) (sym (reads-file c.in_ok-word.ensures.reads base.name)));
      pages = of-file (pages_behind c.self.inside.front.header c.self.inside.front.digest) c.pages_behind-pages.result (is_faithful (g.F.Files.log c.word_on.new.files)) (held _) (held c.as_str.result.now) c.word_on.new.kept.entries c.word_on.new.kept.entries
          (sym c.pages_behind-pages.ensures) (ap held (sym c.as_str.ensures.value)) refl c.in_ok-word.ensures.of_file;
    }

pub word_on-requires-clause-right : goal.word_on-requires-clause-right
word_on-requires-clause-right g c = subst (λ (pages : Pages). ArePagesKept pages c.self.inside.kept.entries) (sym c.pages_behind-pages.ensures) c.self.invariant.right

pub returns-in_err-word-clause-within : goal.returns-in_err-word-clause-within
returns-in_err-word-clause-within g c = let p = err_from_is_err_and c.from_residual.result c.from_residual.ensures.1 in rw p.1 tt

pub returns-in_err-word-clause-later : goal.returns-in_err-word-clause-later
returns-in_err-word-clause-later g c = c.word_on.ensures.later

pub returns-in_err-word-clause-reads : goal.returns-in_err-word-clause-reads
returns-in_err-word-clause-reads g c = c.word_on.ensures.reads

pub returns-clause-later : goal.returns-clause-later
returns-clause-later g c = c.word_on.ensures.later

pub returns-clause-reads : goal.returns-clause-reads
returns-clause-reads g c = c.word_on.ensures.reads
