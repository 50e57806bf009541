use Rattle.race_table.proofs.Counts.{race-by-highest}
use Rattle.race_table.proofs.laws.highest_places_tell_races.Goals as goal

pub returns : goal.returns
returns c = race-by-highest
