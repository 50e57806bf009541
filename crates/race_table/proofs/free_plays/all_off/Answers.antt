use Rattle.std.proofs.Common.{arith}
use Rattle.position_rank.proofs.RankLaws.{rank-below}
use Rattle.race_table.proofs.AllOff.{lowest-rank}
use Rattle.race_table.proofs.free_plays.all_off.Goals as goal

pub unrank-requires-clause-rank : goal.unrank-requires-clause-rank
unrank-requires-clause-rank c = rw c.checkers.ensures.checkers (omega (arith, rank-below _ c.checkers.ensures.valid))

pub returns-clause-off : goal.returns-clause-off
returns-clause-off c = lowest-rank c.unrank.result c.unrank.ensures.valid c.unrank.ensures.rank
