use Rattle.turn_rule.proofs.Monotone.{turn-tighter}
use Rattle.turn_rule.proofs.laws.tighter_words_tighten_turns.Goals as goal

pub returns : goal.returns
returns c = λ game right u v tight. turn-tighter game right.stakes u v tight
