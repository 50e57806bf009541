use Rattle.std.proofs.Common.{◌≡◌, ◌∙◌, ℕ, Err, List, length, subst, arith}
use Rattle.hyper_outside.specs.declared.outside.Failed.{Failed}
use Rattle.outside_log.specs.Log.{Adds}
use Rattle.outside_log.proofs.Logs.{added-once, adds-one, failed-behind}
use Rattle.word_pages.specs.Pages.{first_pages, pages_in, pages_text}
use Rattle.database_file.proofs.Writing.{all-added, first_page_more}
use Rattle.database_file.proofs.write.append_pages.Goals as goal

pub pages-preserved : goal.pages-preserved
pages-preserved g c =
    let middle = g.F.Files.log c.pages.files in
    let new = g.F.Files.log c.append.new.self in
    first_page_more c.args.name.now c.args.version c.args.digest.now c.args.size c.pages.page c.args.words.now (g.F.Files.log c.args.files.now) middle new c.pages.invariant
    (subst (λ (bytes : List ℕ). Adds c.args.name.now bytes middle new) (c.as_slice.ensures.value ∙ c.make_page.ensures) (adds-one c.args.name.now c.as_slice.result.now middle new c.in_ok-append.ensures))

pub returns-in_err-append : goal.returns-in_err-append
returns-in_err-append g c =
    let middle = g.F.Files.log c.pages.files in
    let new = g.F.Files.log c.append.new.self in
    let once = added-once {T = Unit {0}} {E = Failed} c.args.name.now c.as_slice.result.now middle new (Err c.in_err-append.field-0.0) c.in_err-append.ensures in
    failed-behind c.args.name.now _ (pages_text c.args.version c.args.digest.now c.args.size c.args.words.now) (g.F.Files.log c.args.files.now) middle new
    c.from_residual.result c.from_residual.ensures.0 c.pages.invariant once.leaves once.cause.later once.cause.failed

pub returns : goal.returns
returns g c =
    let old = g.F.Files.log c.args.files.now in
    let new = g.F.Files.log c.pages.files in
    let end : c.pages.page ≡ pages_in c.args.size (length c.args.words.now) = omega (arith, c.pages-test.false, c.pages.auto.page-end) in
    all-added c.args.name.now (pages_text c.args.version c.args.digest.now c.args.size c.args.words.now) old new tt
    (subst (λ (n : ℕ). Adds c.args.name.now (first_pages c.args.version c.args.digest.now c.args.size 0 n c.args.words.now) old new) end c.pages.invariant)
