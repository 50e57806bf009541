use Rattle.position_rank.proofs.RankLaws.{layouts-same}
use Rattle.position_rank.proofs.rank.ranks_tell_layouts.Goals as goal

pub returns : goal.returns
returns c = layouts-same
