use Rattle.std.proofs.Common.{rules, tests, ◌∙◌, sym, ap, ◌+◌}
use Rattle.std.proofs.lemmas.List.{take_rest}
use Rattle.std.proofs.lemmas.Iterator.{YieldsList-from_slice}
use Rattle.std.proofs.lemmas.Iterator.Search.{position_from_yields_List}
use Rattle.record_text.proofs.Cuts.{is_byte, cut_found, parts_of}
use Rattle.record_text.proofs.form.cut_at.Goals as goal

pub returns-in_err-at : goal.returns-in_err-at
returns-in_err-at c =
    let found = position_from_yields_List (is_byte c.args.byte) _ _ c.position.result c.position.ensures.ran (YieldsList-from_slice c.args.text.now cc) (λ x b q k. search (rules, tests)) in
    rw c.from_residual.ensures (sym (cut_found c.args.byte c.args.text.now c.position.result found ∙ ap (parts_of c.args.text.now) c.in_err-at.was))

pub returns : goal.returns
returns c =
    let found = position_from_yields_List (is_byte c.args.byte) _ _ c.position.result c.position.ensures.ran (YieldsList-from_slice c.args.text.now cc) (λ x b q k. search (rules, tests)) in
    rw (take_rest c.args.text.now (c.in_ok-at.at + 1)) (sym (cut_found c.args.byte c.args.text.now c.position.result found ∙ ap (parts_of c.args.text.now) c.in_ok-at.was))
