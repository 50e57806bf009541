use Rattle.std.proofs.Common.{rules, tests, ◌∙◌, ◌+◌, sym}
use Rattle.std.proofs.lemmas.List.{take_rest}
use Rattle.std.proofs.lemmas.Iterator.{YieldsList-from_slice}
use Rattle.std.proofs.lemmas.Iterator.Search.{position_from_yields_List}
use Rattle.plain_record.proofs.Parts.{is_byte, cut-some, cut-none}
use Rattle.plain_record.proofs.cut.cut.Goals as goal

pub returns-in-Some-clause-parts : goal.returns-in-Some-clause-parts
returns-in-Some-clause-parts c =
    let found = position_from_yields_List (is_byte c.args.byte) _ _ c.position.result c.position.ensures.ran (YieldsList-from_slice c.args.text.now cc) (λ x b q k. search (rules, tests)) in
    rw (take_rest c.args.text.now (c.in-Some.at + 1)) (cut-some c.args.byte c.args.text.now c.in-Some.at (sym found ∙ c.in-Some.is))

pub returns-in-None-clause-parts : goal.returns-in-None-clause-parts
returns-in-None-clause-parts c =
    let found = position_from_yields_List (is_byte c.args.byte) _ _ c.position.result c.position.ensures.ran (YieldsList-from_slice c.args.text.now cc) (λ x b q k. search (rules, tests)) in
    cut-none c.args.byte c.args.text.now (sym found ∙ c.in-None.is)
