use Rattle.std.proofs.Common.{◌≡◌, ◌∷◌, rules}
use Rattle.std.proofs.lemmas.Result.{on_ok_weaker}
use Rattle.plain_record.specs.Plain.{parts, way_told}
use Rattle.plain_record.proofs.Words.{steps_added}
use Rattle.plain_record.proofs.play.add_word.Goals as goal

pub returns-in_ok-add_steps-in-Some : goal.returns-in_ok-add_steps-in-Some
returns-in_ok-add_steps-in-Some c =
    let cut : parts 47 (way_told c.args.word.now) ≡ c.cut.result.0.now ∷ parts 47 c.in-Some.places.now = search rules in
    on_ok_weaker c.repeat_steps.result (λ others. steps_added _ _ _ c.args.word.now _ c.in-Some.places.now _ cut c.way_told-more.ensures.more c.in_ok-add_steps-in-Some.ensures others) c.repeat_steps.ensures
