use Rattle.best_reply.proofs.Rounds.{rounds-within}
use Rattle.best_reply.proofs.laws.reply_rounds_stay_within_the_bound.Goals as goal

pub returns : goal.returns
returns c = λ game right policy legal r. rounds-within policy legal game right.stakes r
