use Rattle.std.proofs.Common.{◌≡◌, ◌∙◌}
use Rattle.position_rank.specs.LiveRanks.{live_rank_of}
use Rattle.position_rank.proofs.LiveLaws.{live-rank-in}
use Rattle.position_rank.proofs.live.live_rank.Goals as goal

same : (c : goal.After-count_below) → c.count_below.result ≡ live_rank_of c.args.position.now
same c = c.count_below.ensures ∙ rw (c.checkers.ensures.checkers, c.square_rank.ensures.rank)

pub returns-clause-below : goal.returns-clause-below
returns-clause-below c = rw (same c) (live-rank-in c.args.position.now c.checkers.ensures.valid c.requires)
