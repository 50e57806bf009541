use Rattle.std.proofs.Common.{◌∙◌, ◌++◌, ℕ, List, Err, sym, ap, subst, arith}
use Rattle.std.proofs.lemmas.List.{get_or_default}
use Rattle.database_file.specs.declared.pages.PagesStop.TheVariants.{NoMemory}
use Rattle.database_file.specs.Batches.{AreRead}
use Rattle.database_file.proofs.Batches.{one_added, stopped}
use Rattle.database_file.proofs.batch.add_words.Goals as goal

pub loop-page-init : goal.loop-page-init
loop-page-init c = λ pages batch all stands. subst (λ (n : ℕ). AreRead pages all n c.args.words.items) (omega arith) stands.before

pub returns-in-Err : goal.returns-in-Err
returns-in-Err c = λ pages batch all stands.
    stopped pages batch all c.args.words.items c.args.read.now stands c.loop-page.page-index c.in-Err.stop c.loop-page.words.items c.loop-page-test.true
    (get_or_default c.args.read.now c.loop-page.page-index (Err NoMemory) c.page-item.result c.loop-page-test.true ∙ sym c.page-item.is ∙ c.in-Err.is) (c.loop-page.invariant pages batch all stands)

pub loop-page-preserved : goal.loop-page-preserved
loop-page-preserved c = λ pages batch all stands.
    one_added pages batch all c.args.words.items c.args.read.now stands c.loop-page.page-index c.in-Ok.list c.loop-page.words.items c.extend_from_slice.new.self.items c.loop-page-test.true
    (get_or_default c.args.read.now c.loop-page.page-index (Err NoMemory) c.page-item.result c.loop-page-test.true ∙ sym c.page-item.is ∙ c.in-Ok.is) (c.loop-page.invariant pages batch all stands)
    (c.in_ok-extend_from_slice-in-Ok.ensures.items ∙ ap (λ (words : List ℕ). c.loop-page.words.items ++ words) c.deref.ensures.value)

pub returns : goal.returns
returns c = λ pages batch all stands.
    subst (λ (n : ℕ). AreRead pages all n c.loop-page.words.items) (omega (arith, stands.rises, stands.many, c.loop-page-test.false, c.loop-page.auto.page-index-end)) (c.loop-page.invariant pages batch all stands)
