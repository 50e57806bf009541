use Rattle.run_endings.proofs.Completing.{settled}
use Rattle.solve_commands.proofs.ladder_keep.complete.Goals as goal

pub returns : goal.returns
returns g c = settled _ _ _ _ _ _ _ _ _ _ c.in_ok-append_base.ensures.adds c.write_ladder_score-put.ensures c.settle.ensures
