use Rattle.std.proofs.Common.{◌-◌, ◌∙◌, arith, refl}
use Rattle.std.proofs.lemmas.List.{length-take-le}
use Rattle.database_file.proofs.ManyPages.{same_length}
use Rattle.outside_log.specs.Log.{standing}
use Rattle.outside_log.specs.Readings.{is_faithful}
use Rattle.outside_log.proofs.Readings.{reads-before, reads-file}
use Rattle.database_file.proofs.Batches.{batch_fits}
use Rattle.database_file.proofs.KeepingPages.{kept-of-file, kept-right}
use Rattle.database_file.proofs.KeptPages.{moved}
use Rattle.database_file.proofs.keeping.keep_batch.Goals as goal

pub returns-in_err-read_batch-clause-of_file : goal.returns-in_err-read_batch-clause-of_file
returns-in_err-read_batch-clause-of_file g c =
    moved c.args.pages.now (is_faithful (g.F.Files.log c.args.files.now)) (is_faithful (g.F.Files.log c.read_batch.new.files)) (standing (g.F.Files.log c.args.files.now) c.args.name.now) (standing (g.F.Files.log c.read_batch.new.files) c.args.name.now) c.args.kept.now.entries
    (reads-before c.read_batch.ensures.reads) (reads-file c.read_batch.ensures.reads c.args.name.now) c.requires.of_file

pub returns-clause-right : goal.returns-clause-right
returns-clause-right g c =
    let read = c.in_ok-read_batch.ensures.read in
    kept-right c.args.pages.now c.args.batch c.read_batch.new.read c.args.kept.now.entries c.keep_each.new.kept.entries c.keep_each.ensures.kept read.bytes read.has.few read.answers c.requires.right

pub returns-clause-of_file : goal.returns-clause-of_file
returns-clause-of_file g c =
    let pages = c.args.pages.now in
    let tells = is_faithful (g.F.Files.log c.read_batch.new.files) in
    let held = standing (g.F.Files.log c.args.files.now) c.args.name.now in
    moved pages tells tells held (standing (g.F.Files.log c.read_batch.new.files) c.args.name.now) c.keep_each.new.kept.entries (λ told. told) (reads-file c.read_batch.ensures.reads c.args.name.now)
    (kept-of-file pages c.args.batch c.read_batch.new.read c.args.kept.now.entries c.keep_each.new.kept.entries c.keep_each.ensures.kept tells held c.in_ok-read_batch.ensures.read (λ told. c.requires.of_file (reads-before c.read_batch.ensures.reads told)))

pub read_batch-requires-clause-pages : goal.read_batch-requires-clause-pages
read_batch-requires-clause-pages g c κs _ = c.requires.pages

pub read_batch-requires-clause-some : goal.read_batch-requires-clause-some
read_batch-requires-clause-some g c κs _ = c.requires.some

pub read_batch-requires-clause-there : goal.read_batch-requires-clause-there
read_batch-requires-clause-there g c κs _ = c.requires.there

pub read_batch-requires-clause-bytes : goal.read_batch-requires-clause-bytes
read_batch-requires-clause-bytes g c κs _ = omega (arith, c.requires.bytes, batch_fits c.args.pages.now c.args.batch c.requires.some)

pub read_batch-requires-clause-room : goal.read_batch-requires-clause-room
read_batch-requires-clause-room g c κs _ = length-take-le (c.args.batch.past - c.args.batch.first) c.args.read.now c.requires.room

pub returns-in_err-read_batch-clause-right : goal.returns-in_err-read_batch-clause-right
returns-in_err-read_batch-clause-right g c = c.requires.right

pub returns-in_err-read_batch-clause-most : goal.returns-in_err-read_batch-clause-most
returns-in_err-read_batch-clause-most g c = refl

pub returns-in_err-read_batch-clause-buf : goal.returns-in_err-read_batch-clause-buf
returns-in_err-read_batch-clause-buf g c = c.read_batch.ensures.buf

pub returns-in_err-read_batch-clause-room : goal.returns-in_err-read_batch-clause-room
returns-in_err-read_batch-clause-room g c = same_length (c.args.batch.past - c.args.batch.first) c.read_batch.new.read c.args.read.now c.read_batch.auto.read

pub returns-in_err-read_batch-clause-reads : goal.returns-in_err-read_batch-clause-reads
returns-in_err-read_batch-clause-reads g c = c.read_batch.ensures.reads

pub returns-clause-most : goal.returns-clause-most
returns-clause-most g c = c.keep_each.ensures.most

pub returns-clause-buf : goal.returns-clause-buf
returns-clause-buf g c = c.read_batch.ensures.buf

pub returns-clause-room : goal.returns-clause-room
returns-clause-room g c = same_length (c.args.batch.past - c.args.batch.first) c.keep_each.new.read c.args.read.now (c.keep_each.ensures.len ∙ c.read_batch.auto.read)

pub returns-clause-reads : goal.returns-clause-reads
returns-clause-reads g c = c.read_batch.ensures.reads
