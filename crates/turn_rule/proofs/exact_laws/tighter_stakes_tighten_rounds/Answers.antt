use Rattle.turn_rule.proofs.Monotone.{stakes-rounds-tighter}
use Rattle.turn_rule.proofs.exact_laws.tighter_stakes_tighten_rounds.Goals as goal

pub returns : goal.returns
returns c = λ game right other stakes r. stakes-rounds-tighter game other right.stakes stakes r
