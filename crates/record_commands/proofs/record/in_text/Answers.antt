use Rattle.std.proofs.Common.{◌∙◌, ◌++◌, ℕ, List, [], ◌∷◌, ap, map, take, sym}
use Rattle.std.proofs.lemmas.List.{map_more}
use Rattle.std.proofs.lemmas.Option.{get_or_from_slice_get, slice_get_within}
use Rattle.game_record.specs.declared.decision.Decision.{Decision}
use Rattle.record_commands.specs.Records.{at_line}
use Rattle.record_commands.proofs.record.in_text.Goals as goal

pub loop-place-preserved : goal.loop-place-preserved
loop-place-preserved c =
    let told = c.args.told.now in
    let numbers = c.args.plain.now.lines.items in
    let i = c.loop-place.place in
    let decision = c.at-decision.result.now in
    let at = c.at-decision.ensures in
    c.in_ok-push.ensures.ok ∙ ap (λ (n : ℕ). c.loop-place.decisions ++ record decision { line = n } ∷ []) c.line_of-line.ensures
    ∙ ap (λ (xs : List Decision). xs ++ at_line numbers decision ∷ []) c.loop-place.invariant
    ∙ ap (λ (d : Decision). map (at_line numbers) (take i told) ++ at_line numbers d ∷ []) (sym (get_or_from_slice_get told i decision decision at))
    ∙ sym (map_more (at_line numbers) told i decision (slice_get_within told i decision at))
