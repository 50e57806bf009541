use Rattle.std.proofs.Common.{◌∙◌, refl, ℕ, Result, List, Vec, length, ap, arith}
use Rattle.std.specs.Global.{Global}
use Rattle.outside_log.proofs.Readings.{reads-both, reads-none}
use Rattle.database_file.specs.declared.pages.PagesStop.{PagesStop}
use Rattle.database_file.proofs.ManyPages.{kept}
use Rattle.database_file.proofs.keeping.keep_all.Goals as goal

pub returns-in_err-keep_batch-clause-reads : goal.returns-in_err-keep_batch-clause-reads
returns-in_err-keep_batch-clause-reads g c = reads-both _ _ _ c.batches.invariant.reads c.keep_batch.ensures.reads

pub batches-preserved : goal.batches-preserved
batches-preserved g c = record {
  inside = omega (arith, c.min-past.ensures, c.page_count-count.ensures);
  right = c.in_ok-keep_batch.ensures.right;
  of_file = c.in_ok-keep_batch.ensures.of_file;
  most = c.in_ok-keep_batch.ensures.most ∙ c.batches.invariant.most;
  buf = kept c.batches.buf.len c.keep_batch.new.buf c.deref_mut.result.now c.batches.buf.items c.batches.buf.ok.0 c.keep_batch.ensures.buf (ap (λ (bytes : List ℕ). length bytes) c.deref_mut.ensures.value) ∙ c.batches.invariant.buf;
  room = kept c.batches.read.len c.keep_batch.new.read c.deref_mut-in-batches.result.now c.batches.read.items c.batches.read.ok.0 c.keep_batch.ensures.room (ap (λ (read : List (Result (Vec ℕ Global) PagesStop)). length read) c.deref_mut-in-batches.ensures.value) ∙ c.batches.invariant.room;
  reads = reads-both _ _ _ c.batches.invariant.reads c.keep_batch.ensures.reads;
}

pub page_count-count-requires : goal.page_count-count-requires
page_count-count-requires g c = c.requires.pages

pub batch_count-requires : goal.batch_count-requires
batch_count-requires g c = c.requires.pages

pub page_size-requires : goal.page_size-requires
page_size-requires g c = omega (arith, c.requires.pages.few)

pub expect-requires : goal.expect-requires
expect-requires g c κs = λ within. within

pub pass-requires : goal.pass-requires
pass-requires g c κs = λ within. within

pub returns-in_err-buf-clause-right : goal.returns-in_err-buf-clause-right
returns-in_err-buf-clause-right g c = c.requires.right

pub returns-in_err-buf-clause-of_file : goal.returns-in_err-buf-clause-of_file
returns-in_err-buf-clause-of_file g c = c.requires.of_file

pub returns-in_err-buf-clause-most : goal.returns-in_err-buf-clause-most
returns-in_err-buf-clause-most g c = refl

pub returns-in_err-buf-clause-reads : goal.returns-in_err-buf-clause-reads
returns-in_err-buf-clause-reads g c = reads-none _

pub returns-in_err-read-clause-right : goal.returns-in_err-read-clause-right
returns-in_err-read-clause-right g c = c.requires.right

pub returns-in_err-read-clause-of_file : goal.returns-in_err-read-clause-of_file
returns-in_err-read-clause-of_file g c = c.requires.of_file

pub returns-in_err-read-clause-most : goal.returns-in_err-read-clause-most
returns-in_err-read-clause-most g c = refl

pub returns-in_err-read-clause-reads : goal.returns-in_err-read-clause-reads
returns-in_err-read-clause-reads g c = reads-none _

pub overflow_add-first : goal.overflow_add-first
overflow_add-first g c = omega (arith, c.batches-test.true, c.page_count-count.type_inv, c.min-most.ensures)

pub keep_batch-requires-clause-pages : goal.keep_batch-requires-clause-pages
keep_batch-requires-clause-pages g c κs _ = c.requires.pages

pub keep_batch-requires-clause-some : goal.keep_batch-requires-clause-some
keep_batch-requires-clause-some g c κs _ = omega (arith, c.batches-test.true, c.min-past.ensures, c.min-most.ensures)

pub keep_batch-requires-clause-there : goal.keep_batch-requires-clause-there
keep_batch-requires-clause-there g c κs _ = omega (arith, c.min-past.ensures, c.page_count-count.ensures)

pub keep_batch-requires-clause-room : goal.keep_batch-requires-clause-room
keep_batch-requires-clause-room g c κs _ = omega (arith, c.min-past.ensures, c.batches.invariant.room, ap (λ (read : List (Result (Vec ℕ Global) PagesStop)). length read) c.deref_mut-in-batches.ensures.value)

pub keep_batch-requires-clause-right : goal.keep_batch-requires-clause-right
keep_batch-requires-clause-right g c κs _ = c.batches.invariant.right

pub keep_batch-requires-clause-of_file : goal.keep_batch-requires-clause-of_file
keep_batch-requires-clause-of_file g c κs _ = c.batches.invariant.of_file

pub returns-in_err-keep_batch-clause-right : goal.returns-in_err-keep_batch-clause-right
returns-in_err-keep_batch-clause-right g c = c.in_err-keep_batch.ensures.right

pub returns-in_err-keep_batch-clause-of_file : goal.returns-in_err-keep_batch-clause-of_file
returns-in_err-keep_batch-clause-of_file g c = c.in_err-keep_batch.ensures.of_file

pub returns-in_err-keep_batch-clause-most : goal.returns-in_err-keep_batch-clause-most
returns-in_err-keep_batch-clause-most g c = c.in_err-keep_batch.ensures.most ∙ c.batches.invariant.most

pub batches-smaller : goal.batches-smaller
batches-smaller g c = omega (arith, c.batches-test.true, c.min-past.ensures, c.min-most.ensures)

pub returns-clause-right : goal.returns-clause-right
returns-clause-right g c = c.batches.invariant.right

pub returns-clause-of_file : goal.returns-clause-of_file
returns-clause-of_file g c = c.batches.invariant.of_file

pub returns-clause-most : goal.returns-clause-most
returns-clause-most g c = c.batches.invariant.most

pub returns-clause-reads : goal.returns-clause-reads
returns-clause-reads g c = c.batches.invariant.reads
