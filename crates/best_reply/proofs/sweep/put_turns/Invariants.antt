use Rattle.best_reply.specs.Tables.{sums_in, turn_from}
use Rattle.best_reply.proofs.Filling.{IsPutTo}
use Rattle.best_reply.proofs.sweep.put_turns.Given as goal

-- the kinds so far
abbrev pub invariant-loop-number : goal.invariant-loop-number
invariant-loop-number l = IsPutTo l.rank (turn_from l.stakes (sums_in l.sums)) l.fn.bank l.number l.bank
