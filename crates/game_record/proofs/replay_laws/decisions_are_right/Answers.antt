use Rattle.game_record.proofs.RightReplay.{right-replay}
use Rattle.game_record.proofs.replay_laws.decisions_are_right.Goals as goal

pub returns : goal.returns
returns c = right-replay
