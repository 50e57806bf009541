use Rattle.best_reply.proofs.Rounds.{rounds-enclose}
use Rattle.best_reply.proofs.laws.reply_rounds_enclose_longer_games.Goals as goal

pub returns : goal.returns
returns c = λ game right policy legal scoring ends scored r turns. rounds-enclose policy legal game right.stakes scoring ends scored r turns
