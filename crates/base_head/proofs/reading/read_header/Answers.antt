use Rattle.std.proofs.Common.{◌≡◌, ◌∙◌, ℕ, Option, Some, None, sym, ap, ap₂, subst, rules}
use Rattle.base_head.specs.Faults.{checked, first_wrong}
use Rattle.base_head.specs.Headers.{file_length}
use Rattle.base_head.specs.HeaderFaults.{field_checks, fields_of, header_fault, header_in, length_checks}
use Rattle.base_head.specs.declared.fault.BadFile.{BadFile}
use Rattle.base_head.specs.declared.fields.Fields.{Fields}
use Rattle.base_head.specs.declared.header.Header.{Header}
use Rattle.base_head.proofs.Checked.{checked-err, checked-ok, err-is}
use Rattle.base_head.proofs.FieldChecks.{wrong-opening, wrong-fields, after-fields}
use Rattle.base_head.proofs.reading.read_header.Goals as goal

pub returns-in_err-check_opening-clause-read : goal.returns-in_err-check_opening-clause-read
returns-in_err-check_opening-clause-read c =
    let opening = checked-err _ tt _ (sym c.in_err-check_opening.ensures.read) in
    let wrong : header_fault c.args.oldest c.args.size c.args.bytes.now ≡ Some c.in_err-check_opening.field-0.0 = wrong-opening c.args.oldest c.args.size c.args.bytes.now _ opening in
    search (rules, wrong)

pub returns-in_err-header-clause-read : goal.returns-in_err-header-clause-read
returns-in_err-header-clause-read c =
    let bytes = c.args.bytes.now in
    let opening = checked-ok _ _ _ (sym c.in_ok-check_opening.ensures.read) in
    let told = checked-err _ (header_in c.read.result) _ (sym c.in_err-header.ensures.read) in
    let fields = subst (λ (f : Fields). first_wrong (field_checks c.args.oldest f) ≡ Some c.in_err-header.field-0.0) c.read.ensures told in
    let wrong : header_fault c.args.oldest c.args.size bytes ≡ Some c.in_err-header.field-0.0 = wrong-fields c.args.oldest c.args.size bytes c.in_err-header.field-0.0 opening.0 fields in
    err-is _ _ c.from_residual-in_err-header.ensures ∙ sym (ap (λ (told : Option BadFile). checked told (header_in (fields_of bytes))) wrong)

pub returns-in_err-check_length-clause-read : goal.returns-in_err-check_length-clause-read
returns-in_err-check_length-clause-read c =
    let bytes = c.args.bytes.now in
    let opening = checked-ok _ _ _ (sym c.in_ok-check_opening.ensures.read) in
    let fields = checked-ok _ _ _ (sym c.in_ok-header.ensures.read) in
    let none = subst (λ (f : Fields). first_wrong (field_checks c.args.oldest f) ≡ None) c.read.ensures fields.0 in
    let header : c.in_ok-header.header ≡ header_in (fields_of bytes) = fields.1 ∙ ap header_in c.read.ensures in
    let whole : c.file_length.result ≡ file_length (header_in (fields_of bytes)) = c.file_length.ensures ∙ ap file_length header in
    let long = checked-err _ tt _ (sym c.in_err-check_length.ensures) in
    let wrong : header_fault c.args.oldest c.args.size bytes ≡ Some c.in_err-check_length.field-0.0 =
    after-fields c.args.oldest c.args.size bytes opening.0 none ∙ ap (λ (w : ℕ). first_wrong (length_checks c.args.size w)) (sym whole) ∙ long in
    err-is _ _ c.from_residual-in_err-check_length.ensures ∙ sym (ap (λ (told : Option BadFile). checked told (header_in (fields_of bytes))) wrong)

pub returns-clause-read : goal.returns-clause-read
returns-clause-read c =
    let bytes = c.args.bytes.now in
    let opening = checked-ok _ _ _ (sym c.in_ok-check_opening.ensures.read) in
    let fields = checked-ok _ _ _ (sym c.in_ok-header.ensures.read) in
    let none = subst (λ (f : Fields). first_wrong (field_checks c.args.oldest f) ≡ None) c.read.ensures fields.0 in
    let header : c.in_ok-header.header ≡ header_in (fields_of bytes) = fields.1 ∙ ap header_in c.read.ensures in
    let whole : c.file_length.result ≡ file_length (header_in (fields_of bytes)) = c.file_length.ensures ∙ ap file_length header in
    let lengths = checked-ok _ _ _ (sym c.in_ok-check_length.ensures) in
    let right : header_fault c.args.oldest c.args.size bytes ≡ None =
    after-fields c.args.oldest c.args.size bytes opening.0 none ∙ ap (λ (w : ℕ). first_wrong (length_checks c.args.size w)) (sym whole) ∙ lengths.0 in
    ap₂ (λ (wrong : Option BadFile) (h : Header). checked wrong h) (sym right) header
