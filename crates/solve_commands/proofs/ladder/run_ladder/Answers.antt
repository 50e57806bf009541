use Rattle.outside_log.proofs.Logs.{leaves-none}
use Rattle.solve_commands.specs.Ladders.{SolvesLadder}
use Rattle.solve_commands.proofs.LadderEnds.{end-stopped, not-tried, whole-solved, wrote-before}
use Rattle.solve_commands.proofs.Residuals.{at-err}
use Rattle.solve_commands.proofs.ladder.run_ladder.Goals as goal

pub returns-in_err-try_scores-clause-solves : goal.returns-in_err-try_scores-clause-solves
returns-in_err-try_scores-clause-solves g c =
    at-err (SolvesLadder _ _ _ _ _) _ _ c.from_residual.ensures.1 (not-tried _ _ _ _ _ c.in_err-try_scores.ensures.told c.in_err-try_scores.ensures.leaves)

pub returns-in_err-tell_end-in-Ok-clause-solves : goal.returns-in_err-tell_end-in-Ok-clause-solves
returns-in_err-tell_end-in-Ok-clause-solves g c =
    let (starts, since, whole) = c.in-Ok.ensures.solves (g.F.Files.log c.args.files.now) c.try_scores.ensures.leaves in
    at-err (SolvesLadder _ _ _ _ _) _ _ c.from_residual-in_err-tell_end-in-Ok.ensures.1 (end-stopped _ _ _ _ _ _ starts since whole (c.in_err-tell_end-in-Ok.field-0.0, c.in_err-tell_end-in-Ok.ensures))

pub returns-in_ok-tell_end-in-Ok-clause-solves : goal.returns-in_ok-tell_end-in-Ok-clause-solves
returns-in_ok-tell_end-in-Ok-clause-solves g c =
    let tried = g.F.Files.log c.try_scores.new.files in
    let (starts, since, whole) = c.in-Ok.ensures.solves (g.F.Files.log c.args.files.now) c.try_scores.ensures.leaves in
    let (own, later, all_own) = c.in-Ok.ensures.solves tried (leaves-none tried) in (
      whole-solved _ _ _ _ _ _ starts since whole c.in_ok-tell_end-in-Ok.ensures,
      λ place inside all. c.in_ok-try_scores.ensures.may place inside (wrote-before c.args.task.now own later.scores _ tried _ later.files all),
    )
