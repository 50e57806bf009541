use Rattle.move_rules.proofs.OpeningPlays.{opening-goes-on}
use Rattle.move_rules.proofs.laws.opening_plays_go_on.Goals as goal

pub returns : goal.returns
returns c = opening-goes-on
