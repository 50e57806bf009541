use Rattle.race_table.proofs.Lines.{legal-nearer}
use Rattle.race_table.proofs.laws.each_roll_moves_in_a_race.Goals as goal

pub returns : goal.returns
returns c p roll end race right legal = legal-nearer roll right p race end legal
