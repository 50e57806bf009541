use Rattle.std.proofs.Common.{◌∙◌, ◌+◌, ◌*◌, List, Some, ap, length-set, set, subst, sym}
use Rattle.column_sums.specs.declared.best.Bests.{Bests}
use Rattle.column_sums.specs.Tables.{IsRow}
use Rattle.column_sums.specs.Worths.{best_at, cells_at, worth_at}
use Rattle.column_sums.proofs.AtEnds.{best-some, map-set}
use Rattle.column_sums.proofs.TableLemmas.{row-set}
use Rattle.column_sums.proofs.tables.Row.set.Goals as goal

pub returns-clause-set : goal.returns-clause-set
returns-clause-set c = λ end.
    map-set (best_at end) c.self.inside.cells.items (c.args.layer * 4096 + c.args.rank) c.of.result
    ∙ (ap (set (cells_at end c.self.inside.cells.items) (c.args.layer * 4096 + c.args.rank)) (best-some c.of.result c.args.worths c.of.ensures.lower c.of.ensures.upper end)
    ∙ ap (λ (cells : List Bests). set (cells_at end cells) (c.args.layer * 4096 + c.args.rank) (Some (worth_at end c.args.worths))) c.self.view_is)

pub invariant_of-self : goal.invariant_of-self
invariant_of-self c = record {
  many = length-set c.self.inside.cells.items (c.args.layer * 4096 + c.args.rank) c.of.result ∙ c.self.invariant.many;
  each = λ end. subst IsRow (sym (
      map-set (best_at end) c.self.inside.cells.items (c.args.layer * 4096 + c.args.rank) c.of.result
      ∙ ap (set (cells_at end c.self.inside.cells.items) (c.args.layer * 4096 + c.args.rank)) (best-some c.of.result c.args.worths c.of.ensures.lower c.of.ensures.upper end)))
      (row-set (cells_at end c.self.inside.cells.items) c.args.layer c.args.rank (worth_at end c.args.worths) c.requires.layer c.requires.rank (c.self.invariant.each end));
}

pub returns-clause-row : goal.returns-clause-row
returns-clause-row c = invariant_of-self c
