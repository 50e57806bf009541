use Rattle.turn_rule.proofs.Enclosing.{rounds-sound}
use Rattle.turn_rule.proofs.exact_laws.rounds_are_sound.Goals as goal

pub returns : goal.returns
returns c = λ game right r. rounds-sound game right.stakes r
