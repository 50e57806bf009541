use Rattle.std.proofs.Common.{◌≡◌, None, Err, refl, sym, ap, subst}
use Rattle.outside_log.specs.Files.{bytes_from}
use Rattle.database_file.specs.declared.pages.Pages.{Pages}
use Rattle.database_file.specs.Pages.{AnswersPages, ArePages, flaw_in, words_listed}
use Rattle.database_file.proofs.Bases.{pages-valid}
use Rattle.database_file.specs.declared.stop.LoadStop.TheVariants.{NoMemory}
use Rattle.database_file.proofs.Loading.{base-read, base-told, front-stopped, list-fits, no-room, pages-read, pages-told}
use Rattle.outside_log.specs.Log.{standing}
use Rattle.outside_log.proofs.Readings.{reads-before, reads-both, reads-file}
use Rattle.database_file.proofs.load.load_base.Goals as goal

pub returns-in_err-header-clause-read : goal.returns-in_err-header-clause-read
returns-in_err-header-clause-read g c =
    let (file, told) = c.in_err-header.ensures.read in
    (file, front-stopped c.args.oldest file c.in_err-header.field-0.0 c.from_residual.result told c.from_residual.ensures.1)

pub returns-in_err-header-clause-told : goal.returns-in_err-header-clause-told
returns-in_err-header-clause-told g c tells = front-stopped c.args.oldest _ c.in_err-header.field-0.0 c.from_residual.result (c.in_err-header.ensures.told tells) c.from_residual.ensures.1

pub read_pages-requires-clause-pages : goal.read_pages-requires-clause-pages
read_pages-requires-clause-pages g c lifetimes outlive = subst ArePages (sym c.pages_behind-pages.ensures) (pages-valid c.in_ok-header.field-0.header c.in_ok-header.field-0.digest c.in_ok-header.ensures.valid)

pub returns-in_err-list-clause-read : goal.returns-in_err-list-clause-read
returns-in_err-list-clause-read g c =
    let (file, told) = c.in_ok-header.ensures.read in
    let (bytes, pages) = c.in_err-list.ensures.read in
    pages-read c.args.oldest file c.in_ok-header.field-0 bytes c.in_err-list.field-0.0 c.from_residual-in_err-list.result told
    (subst (λ (pages : Pages). AnswersPages pages bytes (Err c.in_err-list.field-0.0)) c.pages_behind-pages.ensures pages) c.from_residual-in_err-list.ensures.1

pub returns-in_err-list-clause-told : goal.returns-in_err-list-clause-told
returns-in_err-list-clause-told g c tells =
    let held = standing (g.F.Files.log c.args.files.now) c.args.name.now in
    let there = standing (g.F.Files.log c.read_front.new.files) c.args.name.now in
    let at = c.pages_behind-pages.result.at in
    pages-told c.args.oldest held there c.in_ok-header.field-0 at c.in_err-list.field-0.0 c.from_residual-in_err-list.result (reads-file c.in_ok-header.ensures.reads c.args.name.now) (ap (λ (pages : Pages). pages.at) c.pages_behind-pages.ensures) (c.in_ok-header.ensures.told (reads-before c.read_pages.ensures.reads tells))
    (subst (λ (pages : Pages). AnswersPages pages (bytes_from at there) (Err c.in_err-list.field-0.0)) c.pages_behind-pages.ensures (c.in_err-list.ensures.told tells))
    c.from_residual-in_err-list.ensures.1

pub base_of-requires-clause-long : goal.base_of-requires-clause-long
base_of-requires-clause-long g c =
    let (file, told) = c.in_ok-header.ensures.read in
    let (bytes, pages) = c.in_ok-list.ensures.read in
    (list-fits c.args.oldest file c.in_ok-header.field-0 bytes c.in_ok-list.list.items c.in_ok-header.ensures.valid told
    (subst (λ (pages : Pages). (flaw_in pages bytes ≡ None) × (c.in_ok-list.list.items ≡ words_listed pages bytes)) c.pages_behind-pages.ensures pages)).0

pub base_of-requires-clause-within : goal.base_of-requires-clause-within
base_of-requires-clause-within g c =
    let (file, told) = c.in_ok-header.ensures.read in
    let (bytes, pages) = c.in_ok-list.ensures.read in
    (list-fits c.args.oldest file c.in_ok-header.field-0 bytes c.in_ok-list.list.items c.in_ok-header.ensures.valid told
    (subst (λ (pages : Pages). (flaw_in pages bytes ≡ None) × (c.in_ok-list.list.items ≡ words_listed pages bytes)) c.pages_behind-pages.ensures pages)).1

pub returns-clause-read : goal.returns-clause-read
returns-clause-read g c =
    let (file, told) = c.in_ok-header.ensures.read in
    let (bytes, pages) = c.in_ok-list.ensures.read in
    base-read c.args.oldest file c.in_ok-header.field-0 bytes c.in_ok-list.list.items c.in_ok-base.base told
    (subst (λ (pages : Pages). (flaw_in pages bytes ≡ None) × (c.in_ok-list.list.items ≡ words_listed pages bytes)) c.pages_behind-pages.ensures pages) c.in_ok-base.ensures

pub returns-clause-told : goal.returns-clause-told
returns-clause-told g c tells =
    let held = standing (g.F.Files.log c.args.files.now) c.args.name.now in
    let there = standing (g.F.Files.log c.read_front.new.files) c.args.name.now in
    let at = c.pages_behind-pages.result.at in
    base-told c.args.oldest held there c.in_ok-header.field-0 at c.in_ok-list.list.items c.in_ok-base.base (reads-file c.in_ok-header.ensures.reads c.args.name.now) (ap (λ (pages : Pages). pages.at) c.pages_behind-pages.ensures) (c.in_ok-header.ensures.told (reads-before c.read_pages.ensures.reads tells))
    (subst (λ (pages : Pages). (flaw_in pages (bytes_from at there) ≡ None) × (c.in_ok-list.list.items ≡ words_listed pages (bytes_from at there))) c.pages_behind-pages.ensures (c.in_ok-list.ensures.told tells))
    c.in_ok-base.ensures

pub returns-in_err-list-clause-reads : goal.returns-in_err-list-clause-reads
returns-in_err-list-clause-reads g c = reads-both _ _ _ c.in_ok-header.ensures.reads c.read_pages.ensures.reads

pub returns-clause-reads : goal.returns-clause-reads
returns-clause-reads g c = reads-both _ _ _ c.in_ok-header.ensures.reads c.read_pages.ensures.reads

pub returns-in_err-base-clause-reads : goal.returns-in_err-base-clause-reads
returns-in_err-base-clause-reads g c = reads-both _ _ _ c.in_ok-header.ensures.reads c.read_pages.ensures.reads

pub returns-in_err-base-clause-told : goal.returns-in_err-base-clause-told
returns-in_err-base-clause-told g c tells = no-room c.args.oldest _ c.in_ok-header.field-0 NoMemory c.from_residual-in_err-base.result refl (c.in_ok-header.ensures.told (reads-before c.read_pages.ensures.reads tells)) c.from_residual-in_err-base.ensures.1
