use Rattle.best_reply.proofs.OutcomeLemmas.{AreSumsAt}
use Rattle.best_reply.proofs.advice.Advice.follow_sum.Given as goal

-- the rolls so far
abbrev pub invariant-loop-i : goal.invariant-loop-i
invariant-loop-i l = AreSumsAt l.words l.bank l.rank l.number l.i l.sum
