use Rattle.std.proofs.Common.{refl}
use Rattle.std.proofs.lemmas.Result.{err_from_is_err_and}
use Rattle.database_file.proofs.batch.read_batch.Goals as goal

pub returns-clause-read : goal.returns-clause-read
returns-clause-read g c = record { bytes = _; has = c.in_ok-count.ensures.bytes; answers = c.read_each.ensures }

pub returns-clause-buf : goal.returns-clause-buf
returns-clause-buf g c = c.fill_batch.ensures.buf

pub returns-clause-kept : goal.returns-clause-kept
returns-clause-kept g c = c.read_each.auto.read

pub returns-clause-cause : goal.returns-clause-cause
returns-clause-cause g c = record { later = c.in_ok-count.ensures.cause.later; failed = tt }

pub returns-clause-reads : goal.returns-clause-reads
returns-clause-reads g c = c.fill_batch.ensures.reads

pub returns-in_err-count-clause-read : goal.returns-in_err-count-clause-read
returns-in_err-count-clause-read g c = let p = err_from_is_err_and c.from_residual.result c.from_residual.ensures.1 in rw p.1 tt

pub returns-in_err-count-clause-buf : goal.returns-in_err-count-clause-buf
returns-in_err-count-clause-buf g c = c.fill_batch.ensures.buf

pub returns-in_err-count-clause-kept : goal.returns-in_err-count-clause-kept
returns-in_err-count-clause-kept g c = refl

pub returns-in_err-count-clause-cause : goal.returns-in_err-count-clause-cause
returns-in_err-count-clause-cause g c =
    let p = err_from_is_err_and c.from_residual.result c.from_residual.ensures.1 in
    record { later = c.in_err-count.ensures.cause.later; failed = rw p.1 c.in_err-count.ensures.cause.failed }

pub returns-in_err-count-clause-reads : goal.returns-in_err-count-clause-reads
returns-in_err-count-clause-reads g c = c.fill_batch.ensures.reads

pub slice_bounds-read_each-end : goal.slice_bounds-read_each-end
slice_bounds-read_each-end g c = c.in_ok-count.ensures.within

pub read_each-requires-clause-few : goal.read_each-requires-clause-few
read_each-requires-clause-few g c κs _ = c.in_ok-count.ensures.bytes.few

pub fill_batch-requires-clause-pages : goal.fill_batch-requires-clause-pages
fill_batch-requires-clause-pages g c = c.requires.pages

pub fill_batch-requires-clause-some : goal.fill_batch-requires-clause-some
fill_batch-requires-clause-some g c = c.requires.some

pub fill_batch-requires-clause-there : goal.fill_batch-requires-clause-there
fill_batch-requires-clause-there g c = c.requires.there

pub fill_batch-requires-clause-bytes : goal.fill_batch-requires-clause-bytes
fill_batch-requires-clause-bytes g c = c.requires.bytes

pub read_each-requires-clause-pages : goal.read_each-requires-clause-pages
read_each-requires-clause-pages g c κs _ = c.requires.pages

pub read_each-requires-clause-some : goal.read_each-requires-clause-some
read_each-requires-clause-some g c κs _ = c.requires.some

pub read_each-requires-clause-there : goal.read_each-requires-clause-there
read_each-requires-clause-there g c κs _ = c.requires.there

pub read_each-requires-clause-room : goal.read_each-requires-clause-room
read_each-requires-clause-room g c κs _ = c.requires.room
