use Rattle.run_endings.proofs.Completing.{settled}
use Rattle.solve_commands.proofs.solve.complete.Goals as goal

pub returns : goal.returns
returns g c =
    settled c.args.task.now.file _ _ _ _ _ _ _ _ _ (rw (c.as_str-name.ensures, c.head_of-head.ensures, c.rounds-made.ensures) at c.in_ok-append_base_by.ensures.adds) (rw c.rounds-made.ensures at c.report-put.ensures) (rw c.as_str-name.ensures at c.settle.ensures)
