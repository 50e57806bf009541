use Rattle.std.proofs.Common.{◌≡◌, ◌<◌, ◌∙◌, ◌+◌, ◌*◌, ℕ, List, length, drop, subst, arith}
use Rattle.std.proofs.lemmas.List.{length-take, length-take-le}
use Rattle.outside_log.specs.Log.{Adds}
use Rattle.outside_log.proofs.Logs.{failed-behind}
use Rattle.word_pages.specs.Pages.{first_pages, pages_in, pages_text}
use Rattle.database_file.proofs.ManyPages.{same_length}
use Rattle.database_file.proofs.Writing.{all-added, begins_before_the_end, pages_more}
use Rattle.database_file.proofs.write.append_batches.Goals as goal

pub make_pages-requires-clause-there : goal.make_pages-requires-clause-there
make_pages-requires-clause-there g c κs _ = λ n below.
    let short = length-take c.min-many.result c.batches.room in
    let there : c.batches.first + n < pages_in c.args.size (length c.args.words.now) = omega (arith, below, short, c.min-many.ensures, c.batches-test.true) in
    begins_before_the_end c.args.size (length c.args.words.now) (c.batches.first + n) c.requires.some there

pub returns-in_err-append_texts : goal.returns-in_err-append_texts
returns-in_err-append_texts g c =
    let err = c.in_err-append_texts.ensures c.args.version c.args.digest.now c.args.size c.args.words.now c.batches.first c.make_pages.ensures.made in
    failed-behind c.args.name.now _ (pages_text c.args.version c.args.digest.now c.args.size c.args.words.now) (g.F.Files.log c.args.files.now) (g.F.Files.log c.batches.files) (g.F.Files.log c.append_texts.new.files)
    c.from_residual.result c.from_residual.ensures.0 c.batches.invariant.added err.leaves err.cause.later err.cause.failed

pub batches-preserved : goal.batches-preserved
batches-preserved g c =
    let middle = g.F.Files.log c.batches.files in
    let new = g.F.Files.log c.append_texts.new.files in
    let first : ℕ = c.batches.first in
    let many : ℕ = c.min-many.result in
    let words : List ℕ = c.args.words.now in
    let all : length c.make_pages.new.texts ≡ many = c.make_pages.ensures.kept ∙ length-take-le many c.batches.room (omega (arith, c.min-many.ensures)) in
    let pages = (c.in_ok-append_texts.ensures c.args.version c.args.digest.now c.args.size words first c.make_pages.ensures.made).adds in
    record {
      inside = omega (arith, c.min-many.ensures, c.batches-test.true);
      places = same_length many c.make_pages.new.texts c.batches.room c.make_pages.ensures.kept ∙ c.batches.invariant.places;
      added = pages_more c.args.name.now c.args.version c.args.digest.now c.args.size first many words (g.F.Files.log c.args.files.now) middle new c.batches.invariant.added
          (subst (λ (n : ℕ). Adds c.args.name.now (first_pages c.args.version c.args.digest.now c.args.size first n (drop (first * c.args.size) words)) middle new) all pages);
    }

pub returns : goal.returns
returns g c =
    let old = g.F.Files.log c.args.files.now in
    let new = g.F.Files.log c.batches.files in
    let end : c.batches.first ≡ pages_in c.args.size (length c.args.words.now) = omega (arith, c.batches-test.false, c.batches.invariant.inside) in
    all-added c.args.name.now (pages_text c.args.version c.args.digest.now c.args.size c.args.words.now) old new tt
    (subst (λ (n : ℕ). Adds c.args.name.now (first_pages c.args.version c.args.digest.now c.args.size 0 n c.args.words.now) old new) end c.batches.invariant.added)
