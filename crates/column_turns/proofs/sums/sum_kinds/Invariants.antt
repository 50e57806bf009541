use Rattle.std.proofs.Common.{◌≡◌, ◌^◌, pos, All, length}
use Rattle.directed_fixed.specs.declared.bounds.End.TheVariants.{Lower, Upper}
use Rattle.directed_fixed.specs.Bounds.{IsWithinUnits}
use Rattle.column_turns.specs.SumsOfKinds.{AreKindsFound}
use Rattle.column_turns.proofs.sums.sum_kinds.Given as goal

-- the kinds so far
abbrev pub invariant-loop-number : goal.invariant-loop-number
invariant-loop-number l = record {
  column : l.column ≡ l.fn.column;
  one : length l.one ≡ length l.fn.one;
  lower : length l.lower ≡ length l.fn.lower;
  upper : length l.upper ≡ length l.fn.upper;
  small_lower : All (IsWithinUnits (pos (2 ^ 42))) l.lower;
  small_upper : All (IsWithinUnits (pos (2 ^ 42))) l.upper;
  found_lower : AreKindsFound Lower l.stakes l.number l.fn.column l.rows l.lower;
  found_upper : AreKindsFound Upper l.stakes l.number l.fn.column l.rows l.upper;
}
