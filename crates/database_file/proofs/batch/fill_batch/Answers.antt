use Rattle.std.proofs.Common.{◌≡◌, ◌∙◌, ◌++◌, ◌≤◌, ℕ, Bool, IsTrue, IfOk, List, Option, Result, Ok, Err, length, take, drop, arith}
use Rattle.std.proofs.lemmas.List.{length-take, length-take-le, take-append-le}
use Rattle.std.proofs.lemmas.Result.{IfOk-weaker}
use Rattle.outside_log.specs.Files.{Fills}
use Rattle.outside_log.specs.Log.{standing}
use Rattle.outside_log.specs.Readings.{is_faithful}
use Rattle.database_file.specs.declared.batch.Batch.{Batch}
use Rattle.database_file.specs.declared.pages.Pages.{Pages}
use Rattle.database_file.specs.Batches.{HasBytes, batch_size}
use Rattle.database_file.specs.Pages.{place_of}
use Rattle.database_file.proofs.Batches.{is_read}
use Rattle.database_file.proofs.ManyPages.{same_length}
use Rattle.database_file.proofs.batch.fill_batch.Goals as goal

-- what was read into the front of a buffer
read_bytes : {E : Type 0} (pages : Pages) (batch : Batch) (at size : ℕ) (told : Bool) (file : Option (List ℕ)) (buf new : List ℕ) (result : Result ℕ E)
    → at ≡ place_of pages batch.first → size ≡ batch_size pages batch → size ≤ length buf → length new ≡ length (take size buf)
    → IfOk result (λ count. count ≤ length (take size buf)) → (IsTrue told → IfOk result (Fills file at (take size buf) new)) → IfOk result (λ count. HasBytes pages batch told file (take count (new ++ drop size buf)))
read_bytes pages batch at size told file buf new (Err failed) place is room same within fills = tt
read_bytes pages batch at size told file buf new (Ok count) place is room same within fills = record {
  few = omega (arith, within, is, length-take count (new ++ drop size buf), length-take size buf);
  is_batch = λ tells. take-append-le count new (drop size buf) (omega (arith, same, within)) ∙ is_read pages batch at count file (take size buf) new place (length-take-le size buf room ∙ is) (fills tells);
}

pub returns-clause-bytes : goal.returns-clause-bytes
returns-clause-bytes g c =
    read_bytes c.args.pages.now c.args.batch c.place_of.result c.batch_size-size.result (is_faithful (g.F.Files.log c.fill.new.files)) (standing (g.F.Files.log c.args.files.now) c.args.name.now) c.args.buf.now c.fill.new.buf
    c.fill.result c.place_of.ensures.place c.batch_size-size.ensures (omega (arith, c.batch_size-size.ensures, c.requires.bytes)) c.fill.auto.buf c.fill.ensures.within c.fill.ensures.fills

pub returns-clause-within : goal.returns-clause-within
returns-clause-within g c =
    let size = c.batch_size-size.result in
    let same = same_length size c.fill.new.buf c.args.buf.now c.fill.auto.buf in
    IfOk-weaker c.fill.result _ _ (λ count few. omega (arith, few, same, length-take size c.args.buf.now)) c.fill.ensures.within

pub returns-clause-buf : goal.returns-clause-buf
returns-clause-buf g c = same_length c.batch_size-size.result c.fill.new.buf c.args.buf.now c.fill.auto.buf

pub returns-clause-cause : goal.returns-clause-cause
returns-clause-cause g c = c.fill.ensures.cause

pub returns-clause-reads : goal.returns-clause-reads
returns-clause-reads g c = c.fill.ensures.reads

pub slice_bounds-fill-end : goal.slice_bounds-fill-end
slice_bounds-fill-end g c = omega (arith, c.batch_size-size.ensures, c.requires.bytes)

pub batch_size-size-requires-clause-pages : goal.batch_size-size-requires-clause-pages
batch_size-size-requires-clause-pages g c = c.requires.pages

pub batch_size-size-requires-clause-some : goal.batch_size-size-requires-clause-some
batch_size-size-requires-clause-some g c = c.requires.some

pub batch_size-size-requires-clause-there : goal.batch_size-size-requires-clause-there
batch_size-size-requires-clause-there g c = c.requires.there

pub place_of-requires-clause-pages : goal.place_of-requires-clause-pages
place_of-requires-clause-pages g c = c.requires.pages

pub place_of-requires-clause-there : goal.place_of-requires-clause-there
place_of-requires-clause-there g c = omega (arith, c.requires.some, c.requires.there)
