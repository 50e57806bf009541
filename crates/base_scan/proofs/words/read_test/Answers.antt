use Rattle.std.proofs.Common.{ℕ, List, sym, subst}
use Rattle.base_scan.specs.Conditions.{IsNumberText, field_text}
use Rattle.base_scan.proofs.TestTexts.{test-parts}
use Rattle.base_scan.proofs.words.read_test.Goals as goal

pub returns-in_err-name : goal.returns-in_err-name
returns-in_err-name c =
    rw c.from_residual.ensures (λ test is.
    let parts = test-parts c.args.word.now c.cut_not-negated.result.1.now c.cut_not-negated.result.0 c.cut_not-negated.ensures.cut c.cut_not-negated.ensures.none test is in
    c.in_err-name.ensures (field_text test.field) test.comparison is.number parts.1)

pub returns-in_err-read_field : goal.returns-in_err-read_field
returns-in_err-read_field c =
    rw c.from_residual-in_err-read_field.ensures (λ test is.
    let parts = test-parts c.args.word.now c.cut_not-negated.result.1.now c.cut_not-negated.result.0 c.cut_not-negated.ensures.cut c.cut_not-negated.ensures.none test is in
    let only = c.in_ok-name.ensures.only (field_text test.field) test.comparison is.number parts.1 in
    c.in_err-read_field.ensures test.field only.0)

pub returns-in_err-read_number : goal.returns-in_err-read_number
returns-in_err-read_number c =
    rw c.from_residual-in_err-read_number.ensures (λ test is.
    let parts = test-parts c.args.word.now c.cut_not-negated.result.1.now c.cut_not-negated.result.0 c.cut_not-negated.ensures.cut c.cut_not-negated.ensures.none test is in
    let only = c.in_ok-name.ensures.only (field_text test.field) test.comparison is.number parts.1 in
    c.in_err-read_number.ensures test.number (subst (λ (xs : List ℕ). IsNumberText xs test.number) (sym only.2) is.value))
