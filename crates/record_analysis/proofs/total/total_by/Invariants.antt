use Rattle.std.proofs.Common.{◌≡◌, ◌≤◌, take}
use Rattle.record_analysis.specs.Totals.{IsSmallTotal, losses_by, total_of}
use Rattle.record_analysis.proofs.total.total_by.Given as goal

-- the total so far
abbrev pub invariant-loop-judged : goal.invariant-loop-judged
invariant-loop-judged l = record {
  total : l.total ≡ total_of (losses_by l.player (take l.judged-index l.list));
  few : l.total.decisions ≤ l.judged-index;
  small : IsSmallTotal l.total;
}
