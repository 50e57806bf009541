use Rattle.std.proofs.Common.{◌≡◌, ◌-◌, ◌≤◌, length, replicate}
use Rattle.position_id.proofs.read.with_off.Given as goal

abbrev pub invariant-loop : goal.invariant-loop
invariant-loop l = record {
  off : l.side.items ≡ replicate (l.counter - length l.mine) 0;
  within : l.counter - length l.mine ≤ length l.theirs - length l.mine;
  length : length l.side.items ≡ l.counter - length l.mine;
}
