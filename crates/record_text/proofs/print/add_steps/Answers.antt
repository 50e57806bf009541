use Rattle.std.proofs.Common.{rules, ◌≡◌, ◌∷◌}
use Rattle.std.proofs.lemmas.Result.{on_ok_weaker}
use Rattle.record_text.proofs.Printing.{steps_added}
use Rattle.record_text.proofs.print.add_steps.Goals as goal

pub returns : goal.returns
returns c =
    let all : c.args.steps.now.items ≡ c.in-Some.first.now ∷ c.in-Some.rest.now = search rules in
    on_ok_weaker c.add_more_steps.result (λ others. steps_added _ _ _ _ c.in-Some.first.now c.in-Some.rest.now all c.in_ok-add_step.ensures others) c.add_more_steps.ensures
