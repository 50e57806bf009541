use Rattle.turn_rule.proofs.Monotone.{stakes-tighter}
use Rattle.turn_rule.proofs.exact_laws.tighter_stakes_tighten_turns.Goals as goal

pub returns : goal.returns
returns c = λ game right other stakes u v words. stakes-tighter game other right.stakes stakes u v words
