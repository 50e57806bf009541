use Rattle.move_rules.proofs.StayLive.{legal_end-stays}
use Rattle.move_rules.proofs.laws.legal_ends_stay_live.Goals as goal

pub returns : goal.returns
returns c = legal_end-stays
