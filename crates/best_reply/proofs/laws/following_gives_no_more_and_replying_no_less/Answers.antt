use Rattle.best_reply.proofs.Between.{between}
use Rattle.best_reply.proofs.laws.following_gives_no_more_and_replying_no_less.Goals as goal

pub returns : goal.returns
returns c = λ policy legal. between policy legal
