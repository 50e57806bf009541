use Rattle.position_rank.proofs.LiveLaws.{live-same}
use Rattle.position_rank.proofs.live.live_ranks_tell_positions.Goals as goal

pub returns : goal.returns
returns c = live-same
