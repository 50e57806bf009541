use Rattle.std.proofs.Common.{◌≡◌}
use Rattle.cube_actions.specs.Money.{cubeless}
use Rattle.plain_table.specs.Rounds.{HasTable}
use Rattle.solve_commands.proofs.bound.pair_after.Given as goal

abbrev pub invariant-loop-round : goal.invariant-loop-round
invariant-loop-round l = record {
  checkers : l.table.table.checkers ≡ l.task.checkers;
  stakes : l.table.stakes ≡ cubeless;
  rounds : HasTable l.table l._round;
}
