use Rattle.std.proofs.Common.{◌≡◌}
use Rattle.plain_table.specs.Tables.{IsFull}
use Rattle.plain_table.specs.Rounds.{AreAlike, IsTurnedBefore}
use Rattle.plain_table.proofs.sweep.sweep_columns.Given as goal

abbrev pub invariant-loop-other : goal.invariant-loop-other
invariant-loop-other l = record {
  layouts : l.turns.layouts ≡ l.fn.turns.layouts;
  kinds : l.turns.kinds ≡ l.fn.turns.kinds;
  alike : AreAlike l.old l.new;
  full : IsFull l.new;
  turned : IsTurnedBefore l.stakes l.old l.new l.other;
}
