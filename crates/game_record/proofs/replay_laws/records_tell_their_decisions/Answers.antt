use Rattle.game_record.proofs.OneReplay.{one-replay}
use Rattle.game_record.proofs.replay_laws.records_tell_their_decisions.Goals as goal

pub returns : goal.returns
returns c = one-replay
