use Rattle.std.proofs.Common.{◌∙◌, ◌+◌, ◌*◌, ℕ, Some, length, take, sym, ap, arith}
use Rattle.hyper_outside.specs.declared.outside.PageFault.TheVariants.{PageDigest}
use Rattle.word_pages.specs.Sealed.{is_sealed_under}
use Rattle.word_pages.proofs.PageFlaws.{short-flaw, digest-flaw, sealed-flaw}
use Rattle.word_pages.proofs.page.read_page.Goals as goal

pub returns-then-bytes-size-clause-flaw : goal.returns-then-bytes-size-clause-flaw
returns-then-bytes-size-clause-flaw c =
    short-flaw c.args.version c.args.binding.now c.args.bound (length c.args.words.now) c.args.at c.args.bytes.now (omega (arith, c.if-bytes-size.true, c.page_size-size.ensures))

pub returns-then-not-is_sealed_under-clause-flaw : goal.returns-then-not-is_sealed_under-clause-flaw
returns-then-not-is_sealed_under-clause-flaw c =
    ap (λ (size : ℕ). Some (record { fault = PageDigest; at = c.args.at + size * length c.args.words.now })) c.word_size.ensures
    ∙ digest-flaw c.args.version c.args.binding.now c.args.bound (length c.args.words.now) c.args.at c.args.bytes.now (omega (arith, c.if-bytes-size.false, c.page_size-size.ensures))
    (ap (λ (size : ℕ). is_sealed_under c.args.binding.now (take size c.args.bytes.now)) (sym c.page_size-size.ensures) ∙ sym c.is_sealed_under.ensures.value ∙ c.if-not-is_sealed_under.true)

pub returns-clause-flaw : goal.returns-clause-flaw
returns-clause-flaw c =
    c.read_pairs.ensures.flaw
    ∙ sealed-flaw c.args.version c.args.binding.now c.args.bound (length c.args.words.now) c.args.at c.args.bytes.now (omega (arith, c.if-bytes-size.false, c.page_size-size.ensures))
    (ap (λ (size : ℕ). is_sealed_under c.args.binding.now (take size c.args.bytes.now)) (sym c.page_size-size.ensures) ∙ sym c.is_sealed_under.ensures.value ∙ c.if-not-is_sealed_under.false)
