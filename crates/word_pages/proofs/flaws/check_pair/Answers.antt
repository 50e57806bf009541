use Rattle.std.proofs.Common.{◌∙◌, ◌+◌, ℕ, Some, sym, ap}
use Rattle.std.proofs.lemmas.Bool.{false≢true}
use Rattle.hyper_outside.specs.declared.outside.PageFault.TheVariants.{Word}
use Rattle.word_pages.proofs.Within.{out_of_range, in_range, lower-flaw, upper-flaw, order-flaw, crossed, ordered}
use Rattle.word_pages.proofs.flaws.check_pair.Goals as goal

pub returns-then-is_none : goal.returns-then-is_none
returns-then-is_none c =
    lower-flaw c.args.version c.args.bound c.args.at c.args.lower c.args.upper
    (out_of_range c.args.bound c.args.lower (λ within. false≢true (sym c.if-is_none.ensures ∙ c.from_word.ensures.within.1 within)))

pub returns-then-is_none-2 : goal.returns-then-is_none-2
returns-then-is_none-2 c =
    ap (λ (size : ℕ). Some (record { fault = Word; at = c.args.at + size })) c.word_size.ensures
    ∙ upper-flaw c.args.version c.args.bound c.args.at c.args.lower c.args.upper
    (in_range c.args.bound c.args.lower (c.from_word.ensures.within.0 c.if-is_none.ensures))
    (out_of_range c.args.bound c.args.upper (λ within. false≢true (sym c.if-is_none-2.ensures ∙ c.from_word-2.ensures.within.1 within)))

pub returns-then-upper-lower : goal.returns-then-upper-lower
returns-then-upper-lower c =
    crossed c.args.lower c.args.upper c.args.at c.if-upper-lower.true
    ∙ order-flaw c.args.version c.args.bound c.args.at c.args.lower c.args.upper
    (in_range c.args.bound c.args.lower (c.from_word.ensures.within.0 c.if-is_none.ensures))
    (in_range c.args.bound c.args.upper (c.from_word-2.ensures.within.0 c.if-is_none-2.ensures))

pub returns : goal.returns
returns c =
    ordered c.args.lower c.args.upper c.args.at c.if-upper-lower.false
    ∙ order-flaw c.args.version c.args.bound c.args.at c.args.lower c.args.upper
    (in_range c.args.bound c.args.lower (c.from_word.ensures.within.0 c.if-is_none.ensures))
    (in_range c.args.bound c.args.upper (c.from_word-2.ensures.within.0 c.if-is_none-2.ensures))
