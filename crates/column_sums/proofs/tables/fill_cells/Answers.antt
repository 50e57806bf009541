use Rattle.std.proofs.Common.{◌≡◌, ◌<◌, ◌∙◌, inl, inr, ℕ, None, ◌∷◌, get_or, set, length, length-set, subst, sym, arith, get_or-set_other}
use Rattle.std.proofs.lemmas.Bool.{cases_lt}
use Rattle.column_sums.specs.declared.cells.Reach.{Reach}
use Rattle.column_sums.specs.Cells.{no_cell, best_from}
use Rattle.column_sums.specs.Tables.{IsRightAt, IsTableOfCells}
use Rattle.column_sums.specs.Worths.{best_at, cells_at}
use Rattle.column_sums.proofs.AtEnds.{map-set}
use Rattle.column_sums.proofs.Listed.{any-reach}
use Rattle.column_sums.proofs.TableLemmas.{after-best, right-set, right-put}
use Rattle.column_sums.proofs.tables.fill_cells.Goals as goal

abbrev no_reach : Reach
no_reach = record { cell = 0; first = 0; second = 0; third = 0 }

pub loop-reach-preserved : goal.loop-reach-preserved
loop-reach-preserved g c =
    let reaches = c.args.reaches.now in
    let at = c.loop-reach.reach-index in
    let reach = get_or reaches at no_reach in
    let within = c.requires.reaches at no_reach c.loop-reach-test.true in
    let before = c.loop-reach.invariant in
    let to = c.loop-reach.to in
    let x = c.best_after.result in
    rw c.from.ensures (record {
      table = record {
        many = length-set to reach.cell x ∙ before.table.many;
        each = λ end. subst IsTableOfCells (sym (map-set (best_at end) to reach.cell x)) (record {
          many = length-set (cells_at end to) reach.cell (best_at end x) ∙ (before.table.each end).many;
          missing = get_or-set_other (cells_at end to) reach.cell no_cell (best_at end x) None (λ e. within.some (sym e)) ∙ (before.table.each end).missing;
        });
      };
      filled = λ end value dice layouts others die few are right i none below. (
          let was = cells_at end to in
          let y = best_at end x in
          let low : reach.cell < length was = omega (arith, within.cell, (before.table.each end).many) in
          let is : y ≡ best_from value (die ∷ dice) layouts others reach.cell =
          c.best_after.ensures end ∙ after-best value layouts others few dice die (cells_at end c.args.from.now) reach (are at no_reach c.loop-reach-test.true) (right at no_reach c.loop-reach-test.true) in
          rw (map-set (best_at end) to reach.cell x) (elim (cases_lt i at) [
            | inl earlier ↦ right-set value (die ∷ dice) layouts others was reach.cell (get_or reaches i none).cell y low is (before.filled end value dice layouts others die few are right i none earlier)
            | inr last ↦ (
                let same : at ≡ i = omega (arith, last, below) in
                let here = right-put value (die ∷ dice) layouts others was reach.cell y low is in
                subst (λ (j : ℕ). IsRightAt value (die ∷ dice) layouts others (set was reach.cell y) (get_or reaches j none).cell) same
                (subst (λ (r : Reach). IsRightAt value (die ∷ dice) layouts others (set was reach.cell y) r.cell) (any-reach reaches at no_reach none c.loop-reach-test.true) here))
          ]));
    })
