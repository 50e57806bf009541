use Rattle.std.proofs.Common.{◌≡◌, ◌≤◌, ℕ, length}
use Rattle.directed_fixed.specs.declared.bounds.End.{End}
use Rattle.column_turns.specs.Moments.{IsLater}
use Rattle.column_turns.specs.Rows.{ArePut, AreRows, row_of}
use Rattle.column_turns.proofs.rows.fill_cell.Given as goal

-- the rows of the kinds so far
abbrev pub invariant-loop-number : goal.invariant-loop-number
invariant-loop-number g l =
    let old = g.P.Pairs.seen l.fn.pairs in
    let now = g.P.Pairs.seen l.pairs in
    record {
      rows : AreRows (length l.stakes.kinds) l.rows;
      put : (end : End) → ArePut end old.source now.notes l.stakes l.left l.layer l.rank l.fn.rows l.rows l.number;
      rest : (k : ℕ) → l.number ≤ k → row_of l.rows k ≡ row_of l.fn.rows k;
      later : IsLater old now;
      stays : g.P.Pairs.stays l.pairs ≡ g.P.Pairs.stays l.fn.pairs;
    }
