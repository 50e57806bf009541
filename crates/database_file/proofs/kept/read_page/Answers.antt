use Rattle.std.proofs.Common.{◌≡◌, ◌∙◌, ◌+◌, ◌++◌, ◌≤◌, ℕ, List, length, take, drop, arith, ap, sym, subst}
use Rattle.std.proofs.lemmas.List.{length-take-le}
use Rattle.std.proofs.lemmas.Result.{err_from_is_err_and}
use Rattle.outside_log.proofs.Readings.{reads-none}
use Rattle.outside_log.specs.Files.{bytes_from}
use Rattle.outside_log.specs.Log.{standing}
use Rattle.database_file.specs.Batches.{IsBatch, batch_size}
use Rattle.database_file.proofs.Batches.{written}
use Rattle.database_file.proofs.KeptPages.{one-page, page-told}
use Rattle.database_file.proofs.kept.read_page.Goals as goal

-- the bytes that are looked at are those that were read
seen : (len count : ℕ) (new old items there : List ℕ) → len ≡ length items → old ≡ items → length new ≡ length old → there ≡ take len (new ++ drop (length new) items) → there ≡ new
seen len count new old items there is lent same value = value ∙ written len new items (is ∙ sym (ap (λ (bytes : List ℕ). length bytes) lent) ∙ sym same)

pub returns-clause-right : goal.returns-clause-right
returns-clause-right g c =
    let is = seen c.in_ok-buf.buf.len c.in_ok-count.count c.fill_batch.new.buf c.deref_mut.result.now c.in_ok-buf.buf.items c.deref.result.now c.in_ok-buf.buf.ok.0 c.deref_mut.ensures.value c.fill_batch.ensures.buf c.deref.ensures.value in
    one-page c.args.pages.now c.args.page _ c.read_in_batch.result (subst (λ (bytes : List ℕ). length (take c.in_ok-count.count bytes) ≤ batch_size c.args.pages.now (record { first = c.args.page; past = c.args.page + 1 })) (sym is) c.in_ok-count.ensures.bytes.few) c.read_in_batch.ensures.words

pub returns-clause-told : goal.returns-clause-told
returns-clause-told g c tells =
    let pages = c.args.pages.now in
    let all = bytes_from pages.at (standing (g.F.Files.log c.args.files.now) c.args.name.now) in
    let is = seen c.in_ok-buf.buf.len c.in_ok-count.count c.fill_batch.new.buf c.deref_mut.result.now c.in_ok-buf.buf.items c.deref.result.now c.in_ok-buf.buf.ok.0 c.deref_mut.ensures.value c.fill_batch.ensures.buf c.deref.ensures.value in
    page-told pages c.args.page all c.read_in_batch.result (c.read_in_batch.ensures.words all (subst (λ (bytes : List ℕ). IsBatch pages (record { first = c.args.page; past = c.args.page + 1 }) (take c.in_ok-count.count bytes) all) (sym is) (c.in_ok-count.ensures.bytes.is_batch tells)))

pub returns-clause-cause : goal.returns-clause-cause
returns-clause-cause g c = λ fault. absurd (c.read_in_batch.ensures.faultless fault)

pub returns-clause-later : goal.returns-clause-later
returns-clause-later g c = c.in_ok-count.ensures.cause.later

pub returns-clause-reads : goal.returns-clause-reads
returns-clause-reads g c = c.fill_batch.ensures.reads

pub words_on-requires-clause-pages : goal.words_on-requires-clause-pages
words_on-requires-clause-pages g c = c.requires.pages

pub words_on-requires-clause-there : goal.words_on-requires-clause-there
words_on-requires-clause-there g c = c.requires.there

pub returns-in_err-buf-clause-right : goal.returns-in_err-buf-clause-right
returns-in_err-buf-clause-right g c = let p = err_from_is_err_and c.from_residual.result c.from_residual.ensures.1 in rw p.1 tt

pub returns-in_err-buf-clause-told : goal.returns-in_err-buf-clause-told
returns-in_err-buf-clause-told g c _ = let p = err_from_is_err_and c.from_residual.result c.from_residual.ensures.1 in rw (p.1, p.2) tt

pub returns-in_err-buf-clause-reads : goal.returns-in_err-buf-clause-reads
returns-in_err-buf-clause-reads g c = reads-none _

pub returns-in_err-buf-clause-later : goal.returns-in_err-buf-clause-later
returns-in_err-buf-clause-later g c = omega arith

pub returns-in_err-count-clause-right : goal.returns-in_err-count-clause-right
returns-in_err-count-clause-right g c = let p = err_from_is_err_and c.from_residual-in_err-count.result c.from_residual-in_err-count.ensures.1 in rw p.1 tt

pub returns-in_err-count-clause-told : goal.returns-in_err-count-clause-told
returns-in_err-count-clause-told g c _ = let p = err_from_is_err_and c.from_residual-in_err-count.result c.from_residual-in_err-count.ensures.1 in rw (p.1, p.2) tt

pub returns-in_err-count-clause-cause : goal.returns-in_err-count-clause-cause
returns-in_err-count-clause-cause g c _ = c.in_err-count.ensures.cause.failed

pub returns-in_err-count-clause-later : goal.returns-in_err-count-clause-later
returns-in_err-count-clause-later g c = c.in_err-count.ensures.cause.later

pub returns-in_err-count-clause-reads : goal.returns-in_err-count-clause-reads
returns-in_err-count-clause-reads g c = c.fill_batch.ensures.reads

pub slice_bounds-read_in_batch-end : goal.slice_bounds-read_in_batch-end
slice_bounds-read_in_batch-end g c =
    let is = seen c.in_ok-buf.buf.len c.in_ok-count.count c.fill_batch.new.buf c.deref_mut.result.now c.in_ok-buf.buf.items c.deref.result.now c.in_ok-buf.buf.ok.0 c.deref_mut.ensures.value c.fill_batch.ensures.buf c.deref.ensures.value in
    sym (length-take-le c.in_ok-count.count c.deref.result.now (subst (λ (bytes : List ℕ). c.in_ok-count.count ≤ length bytes) (sym is) c.in_ok-count.ensures.within))

pub fill_batch-requires-clause-pages : goal.fill_batch-requires-clause-pages
fill_batch-requires-clause-pages g c = c.requires.pages

pub read_in_batch-requires-clause-pages : goal.read_in_batch-requires-clause-pages
read_in_batch-requires-clause-pages g c = c.requires.pages
