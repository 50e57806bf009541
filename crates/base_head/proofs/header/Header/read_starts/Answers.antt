use Rattle.std.proofs.Common.{◌≡◌, ◌∙◌, ℕ, ◌+◌, ◌*◌, true, List, take, Option, Some, None, sym, subst, ap, ap₂}
use Rattle.std.proofs.lemmas.List.{take_rest}
use Rattle.cube_actions.specs.Starts.{StartPairs}
use Rattle.word_pages.specs.Sealed.{is_sealed}
use Rattle.word_pages.specs.Words.{words_in_bytes}
use Rattle.word_pages.proofs.Texts.{length-words_of}
use Rattle.base_head.specs.Faults.{checked}
use Rattle.base_head.specs.Fronts.{head_in, pairs_of_words, starts_fault, starts_length}
use Rattle.base_head.specs.Heads.{AreStartsOf, FileHead}
use Rattle.base_head.specs.Headers.{front_length}
use Rattle.base_head.specs.declared.fault.BadFile.{BadFile}
use Rattle.base_head.proofs.Checked.{checked-err, checked-ok, err-is, right-if}
use Rattle.base_head.proofs.StartsRead.{even-pairs, sealed-starts, starts-go}
use Rattle.base_head.proofs.header.Header.read_starts.Goals as goal

pub returns-in_err-starts : goal.returns-in_err-starts
returns-in_err-starts c =
    let header = c.args.self in
    let bytes = c.args.bytes.now in
    let right : is_sealed (take (front_length header) bytes) ≡ true =
    ap (λ (k : ℕ). is_sealed (take (k + 32) bytes)) (sym c.digest_place-place.ensures) ∙ sym c.is_sealed.ensures.value ∙ right-if c.is_sealed.result _ (checked-ok _ _ _ (sym c.in_ok-check.ensures)).0 in
    let told = checked-err _ _ _ (sym c.in_err-starts.ensures) in
    let wrong : starts_fault header bytes ≡ Some c.in_err-starts.field-0.0 = sealed-starts header bytes _ (take_rest bytes 64) right ∙ told in
    err-is _ _ c.from_residual-in_err-starts.ensures ∙ sym (ap (λ (o : Option BadFile). checked o (head_in header bytes)) wrong)

pub head-requires-clause-starts : goal.head-requires-clause-starts
head-requires-clause-starts c =
    let header = c.args.self in
    let starts = (checked-ok _ _ _ (sym c.in_ok-starts.ensures)).1 in
    let valid = c.requires.valid in
    subst (λ (s : StartPairs). AreStartsOf header.name s) (sym starts)
    (starts-go header.name header.match_length header.starts _ valid.fitting valid.starts (even-pairs header.starts _ (length-words_of header.version (2 * header.starts) _)))

pub returns : goal.returns
returns c =
    let header = c.args.self in
    let bytes = c.args.bytes.now in
    let right : is_sealed (take (front_length header) bytes) ≡ true =
    ap (λ (k : ℕ). is_sealed (take (k + 32) bytes)) (sym c.digest_place-place.ensures) ∙ sym c.is_sealed.ensures.value ∙ right-if c.is_sealed.result _ (checked-ok _ _ _ (sym c.in_ok-check.ensures)).0 in
    let read = checked-ok _ _ _ (sym c.in_ok-starts.ensures) in
    let none : starts_fault header bytes ≡ None = sealed-starts header bytes _ (take_rest bytes 64) right ∙ read.0 in
    let starts : c.in_ok-starts.starts ≡ (head_in header bytes).starts = read.1 ∙ ap (λ (r : List ℕ). record { match_length = starts_length header.name header.match_length; pairs = pairs_of_words (words_in_bytes header.version (2 * header.starts) r) }) (take_rest bytes 64) in
    let head = c.head.ensures ∙ ap (λ (s : StartPairs). record { checkers = header.checkers; name = header.name; rounds = header.rounds; starts = s }) starts in
    ap₂ (λ (o : Option BadFile) (h : FileHead). checked o h) (sym none) head
