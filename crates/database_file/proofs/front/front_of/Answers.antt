use Rattle.std.proofs.Common.{◌≡◌, ◌∙◌, ℕ, List, None, sym, ap, arith}
use Rattle.std.specs.Result.{result_err}
use Rattle.word_pages.specs.declared.version.Version.{Version}
use Rattle.base_head.specs.declared.header.Header.{Header}
use Rattle.base_head.specs.Fronts.{digest_in, head_in, starts_fault}
use Rattle.base_head.specs.Headers.{front_length}
use Rattle.base_head.specs.HeaderFaults.{fields_of, header_fault, header_in}
use Rattle.base_head.proofs.Checked.{checked-err, checked-ok, err-is}
use Rattle.database_file.specs.Faults.{ends_before, front_fault_from, header_of_file, short_fault, starts_wrong}
use Rattle.database_file.proofs.FrontBytes.{goes_on, or_first, or_next}
use Rattle.database_file.proofs.front.front_of.Goals as goal

-- up to the header nothing is wrong
behind_header : (oldest : Version) (size : ℕ) (bytes : List ℕ) → short_fault (record { size = size; bytes = bytes }) ≡ None → header_fault oldest size bytes ≡ None → front_fault_from oldest (record { size = size; bytes = bytes }) ≡ starts_wrong (header_of_file bytes) bytes
behind_header oldest size bytes short header = or_next _ _ short ∙ or_next _ _ header

pub returns-in_err-header-clause-fault : goal.returns-in_err-header-clause-fault
returns-in_err-header-clause-fault c =
    let bytes = c.args.bytes.now in
    let bad = c.in_err-header.field-0.0 in
    let told = checked-err (header_fault c.args.oldest c.args.size bytes) (header_in (fields_of bytes)) bad (sym c.in_err-header.ensures.read) in
    ap result_err (err-is c.from_residual-in_err-header.result bad c.from_residual-in_err-header.ensures) ∙ sym (or_next _ _ (sym c.in_ok-check_begins.ensures) ∙ or_first _ _ bad told)

pub returns-in_err-check_long-clause-fault : goal.returns-in_err-check_long-clause-fault
returns-in_err-check_long-clause-fault c =
    let bytes = c.args.bytes.now in
    let bad = c.in_err-check_long.field-0.0 in
    let told = checked-ok (header_fault c.args.oldest c.args.size bytes) (header_in (fields_of bytes)) c.in_ok-header.header (sym c.in_ok-header.ensures.read) in
    let place : c.front_length.result ≡ front_length (header_of_file bytes) = c.front_length.ensures ∙ ap (λ (header : Header). front_length header) told.1 in
    ap result_err (err-is c.from_residual-in_err-check_long.result bad c.from_residual-in_err-check_long.ensures)
    ∙ sym (behind_header c.args.oldest c.args.size bytes (sym c.in_ok-check_begins.ensures) told.0 ∙ or_first _ _ bad (ap (λ place. ends_before place bytes) (sym place) ∙ sym c.in_err-check_long.ensures))

pub read_starts-requires-clause-long : goal.read_starts-requires-clause-long
read_starts-requires-clause-long c = omega (arith, goes_on c.front_length.result c.args.bytes.now (sym c.in_ok-check_long.ensures), c.front_length.ensures)

pub digest_in-digest-requires-clause-long : goal.digest_in-digest-requires-clause-long
digest_in-digest-requires-clause-long c = omega (arith, goes_on c.front_length.result c.args.bytes.now (sym c.in_ok-check_long.ensures), c.front_length.ensures)

pub returns-in_err-head-clause-fault : goal.returns-in_err-head-clause-fault
returns-in_err-head-clause-fault c =
    let bytes = c.args.bytes.now in
    let bad = c.in_err-head.field-0.0 in
    let told = checked-ok (header_fault c.args.oldest c.args.size bytes) (header_in (fields_of bytes)) c.in_ok-header.header (sym c.in_ok-header.ensures.read) in
    let place : c.front_length.result ≡ front_length (header_of_file bytes) = c.front_length.ensures ∙ ap (λ (header : Header). front_length header) told.1 in
    let starts = checked-err (starts_fault c.in_ok-header.header bytes) (head_in c.in_ok-header.header bytes) bad (sym c.in_err-head.ensures) in
    ap result_err (err-is c.from_residual-in_err-head.result bad c.from_residual-in_err-head.ensures)
    ∙ sym (behind_header c.args.oldest c.args.size bytes (sym c.in_ok-check_begins.ensures) told.0
    ∙ or_next _ _ (ap (λ place. ends_before place bytes) (sym place) ∙ sym c.in_ok-check_long.ensures)
    ∙ ap (λ (header : Header). starts_fault header bytes) (sym told.1) ∙ starts)

pub returns-clause-fault : goal.returns-clause-fault
returns-clause-fault c =
    let bytes = c.args.bytes.now in
    let told = checked-ok (header_fault c.args.oldest c.args.size bytes) (header_in (fields_of bytes)) c.in_ok-header.header (sym c.in_ok-header.ensures.read) in
    let place : c.front_length.result ≡ front_length (header_of_file bytes) = c.front_length.ensures ∙ ap (λ (header : Header). front_length header) told.1 in
    let starts = checked-ok (starts_fault c.in_ok-header.header bytes) (head_in c.in_ok-header.header bytes) c.in_ok-head.head (sym c.in_ok-head.ensures) in
    sym (behind_header c.args.oldest c.args.size bytes (sym c.in_ok-check_begins.ensures) told.0
    ∙ or_next _ _ (ap (λ place. ends_before place bytes) (sym place) ∙ sym c.in_ok-check_long.ensures)
    ∙ ap (λ (header : Header). starts_fault header bytes) (sym told.1) ∙ starts.0)

pub returns-clause-front : goal.returns-clause-front
returns-clause-front c =
    let bytes = c.args.bytes.now in
    let told = checked-ok (header_fault c.args.oldest c.args.size bytes) (header_in (fields_of bytes)) c.in_ok-header.header (sym c.in_ok-header.ensures.read) in
    let place : c.front_length.result ≡ front_length (header_of_file bytes) = c.front_length.ensures ∙ ap (λ (header : Header). front_length header) told.1 in
    let starts = checked-ok (starts_fault c.in_ok-header.header bytes) (head_in c.in_ok-header.header bytes) c.in_ok-head.head (sym c.in_ok-head.ensures) in
    record {
      right = behind_header c.args.oldest c.args.size bytes (sym c.in_ok-check_begins.ensures) told.0
          ∙ or_next _ _ (ap (λ place. ends_before place bytes) (sym place) ∙ sym c.in_ok-check_long.ensures)
          ∙ ap (λ (header : Header). starts_fault header bytes) (sym told.1) ∙ starts.0;
      header = told.1;
      head = starts.1 ∙ ap (λ (header : Header). head_in header bytes) told.1;
      digest = c.digest_in-digest.ensures ∙ ap (λ (header : Header). digest_in header bytes) told.1;
    }
