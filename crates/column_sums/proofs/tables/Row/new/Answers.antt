use Rattle.std.proofs.Common.{◌∙◌, ap, length, length-set, subst, sym}
use Rattle.std.proofs.lemmas.List.{length-replicate}
use Rattle.column_sums.specs.Tables.{IsRow}
use Rattle.column_sums.specs.Worths.{best_at, cells_at, worth_at}
use Rattle.column_sums.proofs.AtEnds.{best-none, best-some, map-replicate, map-set}
use Rattle.column_sums.proofs.TableLemmas.{row-made}
use Rattle.column_sums.proofs.tables.Row.new.Goals as goal

pub invariant_of-result : goal.invariant_of-result
invariant_of-result c =
    let cells = c.in_ok-cells.cells.items in
    record {
      many = length-set cells c.from.result c.missing.result ∙ (ap length c.in_ok-cells.ensures ∙ length-replicate 32768 c.of.result);
      each = λ end. subst IsRow (sym (map-set (best_at end) cells c.from.result c.missing.result))
          (row-made (cells_at end cells) (worth_at end (record { lower = c.whole.result; upper = c.whole-2.result })) (best_at end c.of.result) (best_at end c.missing.result) c.from.result
          (ap (cells_at end) c.in_ok-cells.ensures ∙ map-replicate (best_at end) 32768 c.of.result)
          (best-some c.of.result (record { lower = c.whole.result; upper = c.whole-2.result }) c.of.ensures.lower c.of.ensures.upper end) c.from.ensures (best-none c.missing.result c.missing.ensures.lower c.missing.ensures.upper end));
    }

pub returns : goal.returns
returns c = invariant_of-result c
