use Rattle.std.proofs.Common.{rules, tests, ◌∙◌, ◌+◌, sym}
use Rattle.std.proofs.lemmas.List.{take_rest}
use Rattle.std.proofs.lemmas.Iterator.{YieldsList-from_slice}
use Rattle.std.proofs.lemmas.Iterator.Search.{position_from_yields_List}
use Rattle.plain_record.proofs.Parts.{is_byte, line-ended, line-unended}
use Rattle.plain_record.proofs.cut.first_line.Goals as goal

pub returns-in-Some-clause-first : goal.returns-in-Some-clause-first
returns-in-Some-clause-first c =
    let found = position_from_yields_List (is_byte 10) _ _ c.position.result c.position.ensures.ran (YieldsList-from_slice c.args.text.now cc) (λ x b q k. search (rules, tests)) in
    rw (take_rest c.args.text.now (c.in-Some.end + 1), c.without_return.ensures) (line-ended c.args.text.now c.in-Some.end (sym found ∙ c.in-Some.is))

pub returns-in-None-clause-first : goal.returns-in-None-clause-first
returns-in-None-clause-first c =
    let found = position_from_yields_List (is_byte 10) _ _ c.position.result c.position.ensures.ran (YieldsList-from_slice c.args.text.now cc) (λ x b q k. search (rules, tests)) in
    line-unended c.args.text.now c.requires (sym found ∙ c.in-None.is)
