use Rattle.std.proofs.Common.{◌≡◌}
use Rattle.directed_fixed.specs.declared.bounds.End.TheVariants.{Lower, Upper}
use Rattle.best_reply.specs.Tables.{sums_in}
use Rattle.best_reply.proofs.Doubled.{least_to}
use Rattle.best_reply.proofs.turns.doubled.Given as goal

-- the least of the pass and the answers so far
abbrev pub invariant-loop-taken : goal.invariant-loop-taken
invariant-loop-taken l = record {
  answers : l.taken-items ≡ l.double.answers.items;
  lower : l.least.lower ≡ least_to Lower (sums_in l.sums) l.double l.taken-index;
  upper : l.least.upper ≡ least_to Upper (sums_in l.sums) l.double l.taken-index;
}
