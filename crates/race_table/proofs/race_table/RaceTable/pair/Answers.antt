use Rattle.race_table.proofs.RacePairs.{pair-true}
use Rattle.race_table.proofs.race_table.RaceTable.pair.Goals as goal

pub returns-clause-truth : goal.returns-clause-truth
returns-clause-truth c = rw c.race.ensures (pair-true c.args.position.now c.requires.race)
