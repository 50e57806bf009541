use Rattle.std.proofs.Common.{◌≡◌, length}
use Rattle.directed_fixed.specs.declared.bounds.End.{End}
use Rattle.column_turns.specs.Moments.{IsLater}
use Rattle.column_turns.specs.Rows.{AreFoundRows, AreRows}
use Rattle.column_turns.proofs.rows.fill_rows.Given as goal

-- the layers so far
abbrev pub invariant-loop-layer : goal.invariant-loop-layer
invariant-loop-layer g l =
    let old = g.P.Pairs.seen l.fn.pairs in
    let now = g.P.Pairs.seen l.pairs in
    record {
      rows : AreRows (length l.stakes.kinds) l.rows;
      found : (end : End) → AreFoundRows end old.source now.notes l.stakes l.column.layouts l.column.others l.column.needed l.rows l.layer;
      later : IsLater old now;
      stays : g.P.Pairs.stays l.pairs ≡ g.P.Pairs.stays l.fn.pairs;
    }
