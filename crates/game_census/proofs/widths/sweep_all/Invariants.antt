use Rattle.worker_sweep.specs.Workers.{WorksAt}
use Rattle.game_census.proofs.widths.sweep_all.Given as goal

abbrev pub invariant-loop-block : goal.invariant-loop-block
invariant-loop-block l = WorksAt l.board l.worker
