use Rattle.std.proofs.Common.{◌∙◌, List, ℕ, ap}
use Rattle.run_endings.specs.Scores.{score_file}
use Rattle.solve_commands.proofs.Written.{behind-start, not-begun}
use Rattle.solve_commands.proofs.ladder_keep.write_score.Goals as goal

pub returns-in_err-start : goal.returns-in_err-start
returns-in_err-start g c =
    let named = c.as_str-name.ensures.value ∙ c.score_file-name.ensures ∙ ap (λ (prefix : List ℕ). score_file prefix c.args.line.now.score) c.as_str.ensures in
    not-begun _ _ _ _ _ _ _ c.from_residual.ensures.0 (rw named at c.in_err-start.ensures)

pub returns : goal.returns
returns g c =
    let named = c.as_str-name.ensures.value ∙ c.score_file-name.ensures ∙ ap (λ (prefix : List ℕ). score_file prefix c.args.line.now.score) c.as_str.ensures in
    behind-start _ _ _ _ _ _ (rw named at c.in_ok-start.ensures) _ _ _ (rw (named, c.head_for-head.ensures) at c.complete.ensures)
