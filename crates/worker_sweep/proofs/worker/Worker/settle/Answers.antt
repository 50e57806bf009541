use Rattle.std.proofs.Common.{ap, ◌∙◌}
use Rattle.worker_sweep.specs.Workers.{is_marked}
use Rattle.worker_sweep.proofs.BlockLemmas.{round-done}
use Rattle.worker_sweep.proofs.worker.Worker.settle.Goals as goal

pub settle-requires-clause-round : goal.settle-requires-clause-round
settle-requires-clause-round c =
    round-done c.args.board.now.game c.self.inside.seat.view
    (λ block inside. c.self.invariant.0.marks c.args.board.now.game (ap (λ w. w.seat.view.game) c.self.view_is ∙ c.requires.works.seat.game) block (ap (λ w. is_marked w.marks block) c.self.view_is ∙ c.requires.marks block inside))
