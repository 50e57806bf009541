use Rattle.position_id.proofs.Placements.{shared-told}
use Rattle.position_id.proofs.read.sides_share_point.Goals as goal

pub returns : goal.returns
returns c = shared-told c.args.position.now c.is_apart.result (rw (c.mover.ensures.mover, c.other.ensures.other) at c.is_apart.ensures)
