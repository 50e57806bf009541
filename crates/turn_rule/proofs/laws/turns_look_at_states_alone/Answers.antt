use Rattle.turn_rule.proofs.Agreement.{turn-agree}
use Rattle.turn_rule.proofs.laws.turns_look_at_states_alone.Goals as goal

pub returns : goal.returns
returns c = λ game right u v same. turn-agree game right.stakes u v same
