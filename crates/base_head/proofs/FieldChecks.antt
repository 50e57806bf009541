-- The checks of a header, group by group.
use Rattle.std.proofs.Common.{◌≡◌, ◌∙◌, sym, ℕ, Some, None, List, [], ◌∷◌, ◌++◌, ap}
use Rattle.std.specs.Option.{option_or}
use Rattle.base_head.specs.Faults.{first_wrong}
use Rattle.base_head.specs.Headers.{file_length}
use Rattle.base_head.specs.HeaderFaults.{checkers_check, count_checks, field_checks, fields_of, header_fault, header_in, length_checks, opening_checks, stakes_checks, version_check}
use Rattle.word_pages.specs.declared.version.Version.{Version}
use Rattle.base_head.specs.declared.fault.BadFile.{BadFile}
use Rattle.base_head.specs.declared.fields.Fields.{Fields}
use Rattle.base_head.proofs.Checked.{first_wrong-append, none_or}

pub fields-parts : (oldest : Version) (fields : Fields) → first_wrong (field_checks oldest fields)
    ≡ option_or (first_wrong (version_check oldest fields ∷ []))
    (option_or (first_wrong (checkers_check fields ∷ []))
    (option_or (first_wrong (stakes_checks fields)) (first_wrong (count_checks fields))))
fields-parts oldest fields =
    first_wrong-append (version_check oldest fields ∷ []) (checkers_check fields ∷ (stakes_checks fields ++ count_checks fields))
    ∙ ap (option_or (first_wrong (version_check oldest fields ∷ []))) (
    first_wrong-append (checkers_check fields ∷ []) (stakes_checks fields ++ count_checks fields)
    ∙ ap (option_or (first_wrong (checkers_check fields ∷ []))) (first_wrong-append (stakes_checks fields) (count_checks fields))
    )

pub header-parts : (oldest : Version) (size : ℕ) (bytes : List ℕ) → header_fault oldest size bytes
    ≡ option_or (first_wrong (opening_checks size bytes))
    (option_or (first_wrong (field_checks oldest (fields_of bytes))) (first_wrong (length_checks size (file_length (header_in (fields_of bytes))))))
header-parts oldest size bytes =
    let fields = field_checks oldest (fields_of bytes) in
    let lengths = length_checks size (file_length (header_in (fields_of bytes))) in
    first_wrong-append (opening_checks size bytes) (fields ++ lengths)
    ∙ ap (option_or (first_wrong (opening_checks size bytes))) (first_wrong-append fields lengths)

pub wrong-fields : (oldest : Version) (size : ℕ) (bytes : List ℕ) (bad : BadFile) → first_wrong (opening_checks size bytes) ≡ None → first_wrong (field_checks oldest (fields_of bytes)) ≡ Some bad
    → header_fault oldest size bytes ≡ Some bad
wrong-fields oldest size bytes bad opening fields =
    let lengths = first_wrong (length_checks size (file_length (header_in (fields_of bytes)))) in
    header-parts oldest size bytes
    ∙ ap (λ v. option_or v (option_or (first_wrong (field_checks oldest (fields_of bytes))) lengths)) opening
    ∙ ap (λ v. option_or v lengths) fields

pub wrong-opening : (oldest : Version) (size : ℕ) (bytes : List ℕ) (bad : BadFile) → first_wrong (opening_checks size bytes) ≡ Some bad → header_fault oldest size bytes ≡ Some bad
wrong-opening oldest size bytes bad opening =
    let lengths = first_wrong (length_checks size (file_length (header_in (fields_of bytes)))) in
    header-parts oldest size bytes ∙ ap (λ v. option_or v (option_or (first_wrong (field_checks oldest (fields_of bytes))) lengths)) opening

pub after-fields : (oldest : Version) (size : ℕ) (bytes : List ℕ) → first_wrong (opening_checks size bytes) ≡ None → first_wrong (field_checks oldest (fields_of bytes)) ≡ None
    → header_fault oldest size bytes ≡ first_wrong (length_checks size (file_length (header_in (fields_of bytes))))
after-fields oldest size bytes opening fields =
    let lengths = first_wrong (length_checks size (file_length (header_in (fields_of bytes)))) in
    header-parts oldest size bytes
    ∙ ap (λ v. option_or v (option_or (first_wrong (field_checks oldest (fields_of bytes))) lengths)) opening
    ∙ ap (λ v. option_or v lengths) fields

pub all-header : (oldest : Version) (size : ℕ) (bytes : List ℕ) → header_fault oldest size bytes ≡ None
    → (first_wrong (opening_checks size bytes) ≡ None) × (first_wrong (field_checks oldest (fields_of bytes)) ≡ None) × (first_wrong (length_checks size (file_length (header_in (fields_of bytes)))) ≡ None)
all-header oldest size bytes none =
    let a = none_or (first_wrong (opening_checks size bytes)) _ (sym (header-parts oldest size bytes) ∙ none) in
    let b = none_or (first_wrong (field_checks oldest (fields_of bytes))) _ a.1 in
    (a.0, b.0, b.1)

-- ---- where the parts are known

pub wrong-name : (oldest : Version) (fields : Fields) (bad : BadFile) → first_wrong (version_check oldest fields ∷ []) ≡ None → first_wrong (checkers_check fields ∷ []) ≡ None
    → first_wrong (stakes_checks fields) ≡ Some bad → first_wrong (field_checks oldest fields) ≡ Some bad
wrong-name oldest fields bad version checkers stakes =
    let others = first_wrong (count_checks fields) in
    fields-parts oldest fields
    ∙ ap (λ v. option_or v (option_or (first_wrong (checkers_check fields ∷ [])) (option_or (first_wrong (stakes_checks fields)) others))) version
    ∙ ap (λ v. option_or v (option_or (first_wrong (stakes_checks fields)) others)) checkers
    ∙ ap (λ v. option_or v others) stakes

pub after-name : (oldest : Version) (fields : Fields) → first_wrong (version_check oldest fields ∷ []) ≡ None → first_wrong (checkers_check fields ∷ []) ≡ None
    → first_wrong (stakes_checks fields) ≡ None → first_wrong (field_checks oldest fields) ≡ first_wrong (count_checks fields)
after-name oldest fields version checkers stakes =
    let others = first_wrong (count_checks fields) in
    fields-parts oldest fields
    ∙ ap (λ v. option_or v (option_or (first_wrong (checkers_check fields ∷ [])) (option_or (first_wrong (stakes_checks fields)) others))) version
    ∙ ap (λ v. option_or v (option_or (first_wrong (stakes_checks fields)) others)) checkers
    ∙ ap (λ v. option_or v others) stakes

pub all-parts : (oldest : Version) (fields : Fields) → first_wrong (field_checks oldest fields) ≡ None
    → (first_wrong (version_check oldest fields ∷ []) ≡ None) × (first_wrong (checkers_check fields ∷ []) ≡ None) × (first_wrong (stakes_checks fields) ≡ None) × (first_wrong (count_checks fields) ≡ None)
all-parts oldest fields none =
    let a = none_or (first_wrong (version_check oldest fields ∷ [])) _ (sym (fields-parts oldest fields) ∙ none) in
    let b = none_or (first_wrong (checkers_check fields ∷ [])) _ a.1 in
    let c = none_or (first_wrong (stakes_checks fields)) (first_wrong (count_checks fields)) b.1 in
    (a.0, b.0, c.0, c.1)
