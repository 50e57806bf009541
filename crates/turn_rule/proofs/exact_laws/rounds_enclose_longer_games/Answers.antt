use Rattle.turn_rule.proofs.Enclosing.{rounds-enclose}
use Rattle.turn_rule.proofs.exact_laws.rounds_enclose_longer_games.Goals as goal

pub returns : goal.returns
returns c = λ game right r. rounds-enclose game right.stakes r
