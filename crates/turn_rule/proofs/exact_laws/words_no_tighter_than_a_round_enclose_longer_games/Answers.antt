use Rattle.turn_rule.proofs.Enclosing.{looser-enclose}
use Rattle.turn_rule.proofs.exact_laws.words_no_tighter_than_a_round_enclose_longer_games.Goals as goal

pub returns : goal.returns
returns c = λ game right r u tight. looser-enclose game right.stakes r u tight
