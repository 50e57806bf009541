use Rattle.game_record.proofs.OneReplay.{replay-right}
use Rattle.game_record.proofs.replay_laws.replays_break_no_rule.Goals as goal

pub returns : goal.returns
returns c = replay-right c.written_legal_plays_have_no_fault.ensures
