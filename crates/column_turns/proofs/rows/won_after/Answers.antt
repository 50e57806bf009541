use Rattle.std.proofs.Common.{sym}
use Rattle.column_turns.proofs.LivePoints.{live-goes-on}
use Rattle.column_turns.proofs.rows.won_after.Goals as goal

pub returns-then-live : goal.returns-then-live
returns-then-live c = sym (live-goes-on c.args.left.now c.checkers-checkers.ensures.valid (c.requires c.if-live.true))
