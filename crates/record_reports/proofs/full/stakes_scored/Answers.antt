use Rattle.std.proofs.Common.{[]}
use Rattle.cube_actions.specs.Starts.{StartPairs}
use Rattle.record_reports.proofs.full.stakes_scored.Goals as goal

no_starts : StartPairs
no_starts = record { match_length = 1; pairs = [] }

pub returns-in-Unlimited : goal.returns-in-Unlimited
returns-in-Unlimited c = rw c.in-Unlimited.is (no_starts, c.unlimited.ensures)
