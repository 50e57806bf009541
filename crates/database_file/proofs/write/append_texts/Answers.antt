use Rattle.std.proofs.Common.{◌≡◌, ◌∙◌, ◌*◌, ℕ, List, Err, drop, length, ap, subst, arith}
use Rattle.hyper_outside.specs.declared.outside.Failed.{Failed}
use Rattle.outside_log.specs.Log.{Adds}
use Rattle.outside_log.proofs.Logs.{added-once, adds-one, failed-behind}
use Rattle.word_pages.specs.Pages.{first_pages}
use Rattle.database_file.proofs.Writing.{all-added, one_page_more}
use Rattle.database_file.proofs.write.append_texts.Goals as goal

pub returns-in_err-append : goal.returns-in_err-append
returns-in_err-append g c = λ version digest size words first are.
    let middle = g.F.Files.log c.texts.files in
    let new = g.F.Files.log c.append.new.self in
    let once = added-once {T = Unit {0}} {E = Failed} c.args.name.now c.as_slice.result.now middle new (Err c.in_err-append.field-0.0) c.in_err-append.ensures in
    failed-behind c.args.name.now _ (first_pages version digest size first (length c.args.texts.now) (drop (first * size) words)) (g.F.Files.log c.args.files.now) middle new
    c.from_residual.result c.from_residual.ensures.0 (c.texts.invariant version digest size words first are) once.leaves once.cause.later once.cause.failed

pub texts-preserved : goal.texts-preserved
texts-preserved g c = λ version digest size words first are.
    let middle = g.F.Files.log c.texts.files in
    let new = g.F.Files.log c.append.new.self in
    let text = c.as_slice.ensures.value ∙ ap (λ page. page.items) c.index-texts-number.is ∙ are c.texts.number c.index-texts-number.result c.texts-test.true in
    one_page_more c.args.name.now version digest size first c.texts.number words (g.F.Files.log c.args.files.now) middle new (c.texts.invariant version digest size words first are)
    (subst (λ (bytes : List ℕ). Adds c.args.name.now bytes middle new) text (adds-one c.args.name.now c.as_slice.result.now middle new c.in_ok-append.ensures))

pub returns : goal.returns
returns g c = λ version digest size words first are.
    let old = g.F.Files.log c.args.files.now in
    let new = g.F.Files.log c.texts.files in
    let end : c.texts.number ≡ length c.args.texts.now = omega (arith, c.texts-test.false, c.texts.auto.number-end) in
    all-added c.args.name.now (first_pages version digest size first (length c.args.texts.now) (drop (first * size) words)) old new tt
    (subst (λ (n : ℕ). Adds c.args.name.now (first_pages version digest size first n (drop (first * size) words)) old new) end (c.texts.invariant version digest size words first are))
