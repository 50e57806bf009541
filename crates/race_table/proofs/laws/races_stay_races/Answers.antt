use Rattle.race_table.proofs.Lines.{legal-race}
use Rattle.race_table.proofs.laws.races_stay_races.Goals as goal

pub returns : goal.returns
returns c p roll end race right legal = legal-race roll right p race end legal
