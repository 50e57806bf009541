use Rattle.position_rank.proofs.StartLive.{start-live}
use Rattle.position_rank.proofs.position.Position.start.Goals as goal

pub returns-clause-live : goal.returns-clause-live
returns-clause-live c = rw c.start-side.ensures.start (start-live c.args.checkers c.requires.low c.requires.high)
