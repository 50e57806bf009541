use Rattle.std.proofs.Common.{add-one}
use Rattle.best_reply.proofs.Rounds.{rounds-tighter}
use Rattle.best_reply.proofs.laws.reply_rounds_tighten.Goals as goal

pub returns : goal.returns
returns c = λ game right policy legal r. rw (add-one r) (rounds-tighter policy legal game right.stakes r)
