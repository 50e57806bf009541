use Rattle.std.proofs.Common.{◌∙◌, ◌-◌, ℕ, List, ◌++◌, length, sym, ap, ap₂, arith}
use Rattle.std.proofs.lemmas.Bool.{false≢true}
use Rattle.std.specs.Str.{bytes_eq}
use Rattle.sha2.specs.Sha256.{sha256}
use Rattle.word_pages.proofs.Seals.{digest-is, short-is, short-not_sealed, is_sealed-exactly}
use Rattle.word_pages.proofs.digest.is_sealed_under.Goals as goal

pub returns-then-bytes-lt-DIGEST_SIZE-clause-value :
    goal.returns-then-bytes-lt-DIGEST_SIZE-clause-value
returns-then-bytes-lt-DIGEST_SIZE-clause-value c = short-is c.args.binding.now c.args.bytes.now (omega (arith, c.if-bytes-lt-DIGEST_SIZE.true))

pub returns-then-bytes-lt-DIGEST_SIZE-clause-exactly :
    goal.returns-then-bytes-lt-DIGEST_SIZE-clause-exactly
returns-then-bytes-lt-DIGEST_SIZE-clause-exactly c =
    (λ wrong. absurd (false≢true wrong), λ same. absurd (short-not_sealed c.args.binding.now c.args.bytes.now _ (omega (arith, c.if-bytes-lt-DIGEST_SIZE.true)) same))

pub returns-clause-value : goal.returns-clause-value
returns-clause-value c =
    let bytes = c.args.bytes.now in
    let binding = c.args.binding.now in
    let n = length bytes - 32 in
    c.eq.ensures ∙ ap₂ bytes_eq c.split_at.ensures.back (c.as_slice.ensures ∙ c.digest_under.ensures ∙ ap (λ (front : List ℕ). sha256 (binding ++ front)) c.split_at.ensures.front) ∙ digest-is binding n bytes (omega arith)

pub returns-clause-exactly : goal.returns-clause-exactly
returns-clause-exactly c =
    let bytes = c.args.bytes.now in
    let value = returns-clause-value c in
    let exactly = is_sealed-exactly c.args.binding.now bytes in
    (λ right. exactly.0 (sym value ∙ right), λ same. value ∙ exactly.1 same)
