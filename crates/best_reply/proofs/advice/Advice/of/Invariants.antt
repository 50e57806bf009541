use Rattle.best_reply.specs.Outcomes.{IsAdvisedTo}
use Rattle.best_reply.proofs.advice.Advice.of.Given as goal

-- the positions so far
abbrev pub invariant-loop-rank : goal.invariant-loop-rank
invariant-loop-rank l = IsAdvisedTo l.words l.rank l.outcomes.items
