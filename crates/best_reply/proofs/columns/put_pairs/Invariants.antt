use Rattle.column_turns.specs.Columns.{pair_in}
use Rattle.best_reply.proofs.Filling.{IsPutTo}
use Rattle.best_reply.proofs.columns.put_pairs.Given as goal

-- the kinds so far
abbrev pub invariant-loop-number : goal.invariant-loop-number
invariant-loop-number l = IsPutTo l.rank (pair_in l.turns l.i) l.fn.bank l.number l.bank
