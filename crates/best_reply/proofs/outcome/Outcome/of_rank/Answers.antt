use Rattle.best_reply.proofs.OutcomeLemmas.{rank-number}
use Rattle.best_reply.proofs.outcome.Outcome.of_rank.Goals as goal

pub returns-clause-goes_on : goal.returns-clause-goes_on
returns-clause-goes_on c = rank-number c.args.rank
