use Rattle.best_reply.proofs.FirstRow.{begins}
use Rattle.best_reply.proofs.laws.the_first_row_is_advised.Goals as goal

pub returns : goal.returns
returns c = λ stakes u p k roll ranking is. begins stakes u p k roll ranking is
