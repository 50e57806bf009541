use Rattle.race_table.proofs.RacePairs.{pair-true}
use Rattle.race_table.proofs.laws.pairs_of_races_are_true.Goals as goal

pub returns : goal.returns
returns c = pair-true
