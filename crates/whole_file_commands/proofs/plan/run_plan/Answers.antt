use Rattle.whole_file_commands.proofs.PlanFiles.{has-planned}
use Rattle.whole_file_commands.proofs.plan.run_plan.Goals as goal

pub returns-in-Ok-clause-tells : goal.returns-in-Ok-clause-tells
returns-in-Ok-clause-tells g c =
    has-planned c.plans_hold_inside_their_pairs.ensures c.plans_of_solved_matches_hold_in_the_end.ensures c.args.task.now c.requires.right.point c.requires.right.points _ _ c.in_ok-base.base c.in_ok-base.ensures.told
    c.planned_starts-starts.result c.planned_starts-starts.ensures.starts c.planned_starts-starts.ensures.whole _ c.in-Ok.ensures

pub returns-clause-tells : goal.returns-clause-tells
returns-clause-tells g c =
    has-planned c.plans_hold_inside_their_pairs.ensures c.plans_of_solved_matches_hold_in_the_end.ensures c.args.task.now c.requires.right.point c.requires.right.points _ _ c.in_ok-base.base c.in_ok-base.ensures.told
    c.planned_starts-starts.result c.planned_starts-starts.ensures.starts c.planned_starts-starts.ensures.whole _ (_, c.in-Err.ensures)
