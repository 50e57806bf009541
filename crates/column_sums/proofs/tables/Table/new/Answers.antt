use Rattle.std.proofs.lemmas.List.{length-replicate}
use Rattle.column_sums.specs.Worths.{best_at}
use Rattle.column_sums.proofs.AtEnds.{best-none, map-replicate}
use Rattle.column_sums.proofs.TableLemmas.{table-start}
use Rattle.column_sums.proofs.tables.Table.new.Goals as goal

pub invariant_of-result : goal.invariant_of-result
invariant_of-result c = rw c.in_ok-cells.ensures (record {
  many = length-replicate 32768 c.missing.result;
  each = λ end. rw (map-replicate (best_at end) 32768 c.missing.result, best-none c.missing.result c.missing.ensures.lower c.missing.ensures.upper end) table-start;
})

pub returns : goal.returns
returns c = invariant_of-result c
