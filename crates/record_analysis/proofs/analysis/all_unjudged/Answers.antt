use Rattle.std.proofs.Common.{◌∙◌, ◌++◌, List, [], ◌∷◌, ap, map, take, sym}
use Rattle.std.proofs.lemmas.List.{map_more}
use Rattle.std.proofs.lemmas.Option.{get_or_from_slice_get, slice_get_within}
use Rattle.game_record.specs.declared.decision.Decision.{Decision}
use Rattle.record_analysis.specs.declared.analysis.Judged.{Judged}
use Rattle.record_analysis.specs.Analyses.{unjudged}
use Rattle.record_analysis.proofs.analysis.all_unjudged.Goals as goal

pub loop-i-preserved : goal.loop-i-preserved
loop-i-preserved c =
    let decisions = c.args.decisions.now in
    let i = c.loop-i.i in
    let decision = c.at-decision.result.now in
    let at = c.at-decision.ensures in
    let pushed = c.in_ok-push.ensures in
    pushed.items ∙ (ap (λ (xs : List Judged). xs ++ unjudged decision ∷ []) c.loop-i.invariant
    ∙ (ap (λ (d : Decision). map unjudged (take i decisions) ++ unjudged d ∷ []) (sym (get_or_from_slice_get decisions i decision decision at))
    ∙ sym (map_more unjudged decisions i decision (slice_get_within decisions i decision at))))
