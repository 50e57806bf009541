use Rattle.position_rank.proofs.RankLaws.{positions-same}
use Rattle.position_rank.proofs.rank.square_ranks_tell_positions.Goals as goal

pub returns : goal.returns
returns c = positions-same
