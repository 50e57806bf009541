use Rattle.std.proofs.Common.{◌≡◌, length}
use Rattle.directed_fixed.specs.declared.bounds.End.{End}
use Rattle.column_sums.specs.Leaps.{layout_at}
use Rattle.column_turns.specs.Moments.{IsLater}
use Rattle.column_turns.specs.Rows.{AreFoundRowsTo, AreRows}
use Rattle.column_turns.proofs.rows.fill_layer.Given as goal

-- the cells so far
abbrev pub invariant-loop-rank : goal.invariant-loop-rank
invariant-loop-rank g l =
    let old = g.P.Pairs.seen l.fn.pairs in
    let now = g.P.Pairs.seen l.pairs in
    let other = layout_at l.column.others l.layer in
    record {
      rows : AreRows (length l.stakes.kinds) l.rows;
      found : (end : End) → AreFoundRowsTo end old.source now.notes l.stakes l.column.layouts other l.column.needed l.fn.rows l.rows l.layer l.rank;
      later : IsLater old now;
      stays : g.P.Pairs.stays l.pairs ≡ g.P.Pairs.stays l.fn.pairs;
    }
