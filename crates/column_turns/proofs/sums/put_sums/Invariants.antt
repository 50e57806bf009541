use Rattle.std.proofs.Common.{◌≡◌, ◌≢◌, ◌<◌, ◌^◌, ℕ, pos, All, get_or}
use Rattle.directed_fixed.specs.Bounds.{IsWithinUnits}
use Rattle.column_sums.specs.Worths.{worths_at}
use Rattle.column_turns.specs.Turns.{place_in}
use Rattle.column_turns.proofs.sums.put_sums.Given as goal

-- those of the positions so far
abbrev pub invariant-loop-i : goal.invariant-loop-i
invariant-loop-i l = record {
  small : All (IsWithinUnits (pos (2 ^ 42))) l.all;
  put : (i : ℕ) → i < l.i → get_or l.all (place_in l.kinds i l.number) (pos 0) ≡ get_or (worths_at l.end l.one) i (pos 0);
  same : (i k : ℕ) → k < l.kinds → k ≢ l.number → get_or l.all (place_in l.kinds i k) (pos 0) ≡ get_or l.fn.all (place_in l.kinds i k) (pos 0);
}
