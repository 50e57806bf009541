use Rattle.std.proofs.Common.{◌≡◌, ◌∙◌, inr, refl, ap, sym, subst}
use Rattle.std.proofs.lemmas.Bool.{false≢true}
use Rattle.run_endings.specs.Scores.{score_file}
use Rattle.run_endings.specs.Loads.{game_told}
use Rattle.whole_file_commands.specs.Plans.{IsOfFirstGame, first_file}
use Rattle.whole_file_commands.proofs.plan.load_first.Goals as goal

pub returns-else-is_of_first_game-clause-told : goal.returns-else-is_of_first_game-clause-told
returns-else-is_of_first_game-clause-told g c =
    let task = c.args.task.now in
    let base = c.in_ok-base.base in
    let named : c.score_file-name.result.bytes ≡ first_file task = c.score_file-name.ensures ∙ (λ i. score_file (c.as_str.ensures i) (c.first_score-score.ensures i)) in
    let other : IsOfFirstGame task.match_length base.head → ⊥ = λ is. false≢true (sym c.if-is_of_first_game.false ∙ c.is_of_first_game.ensures.1 (subst (IsOfFirstGame task.match_length) (sym c.head.ensures.head) is)) in
    let found = c.game_told.ensures ∙ ap game_told c.head-else-is_of_first_game.ensures.head in
    let read = rw (c.as_str-2.ensures.value ∙ named) at c.in_ok-base.ensures.told in
    (read.0, read.1, inr (record { base = base; read = read.2; other = record { other = other; line = rw (c.first_score-score.ensures, found) refl } }))
