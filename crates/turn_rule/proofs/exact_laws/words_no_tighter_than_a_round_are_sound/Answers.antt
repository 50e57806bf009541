use Rattle.turn_rule.proofs.Enclosing.{looser-sound}
use Rattle.turn_rule.proofs.exact_laws.words_no_tighter_than_a_round_are_sound.Goals as goal

pub returns : goal.returns
returns c = λ game right r u tight. looser-sound game right.stakes r u tight
