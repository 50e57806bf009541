use Rattle.std.proofs.Common.{◌≡◌, ◌<◌, inl, inr, true, ℕ, get_or, set, length, subst, arith}
use Rattle.std.proofs.lemmas.Bool.{cases_lt}
use Rattle.column_sums.specs.Needed.{IsNeeded}
use Rattle.column_sums.proofs.Marks.{mark-needed, mark-still, still-same, still-again}
use Rattle.column_sums.proofs.needed.mark_cells.Goals as goal

pub loop-cell-init : goal.loop-cell-init
loop-cell-init c = record { cells = λ i below. absurd (omega (arith, below)); kept = still-same c.args.needed.now }

pub loop-cell-preserved : goal.loop-cell-preserved
loop-cell-preserved c =
    let cells = c.args.cells.now in
    let at = c.loop-cell.cell-index in
    let old = c.loop-cell.needed in
    let before = c.loop-cell.invariant in
    let here : get_or cells at 0 < length old = omega (arith, c.requires.within at c.loop-cell-test.true, before.kept.many) in
    let still = mark-still old (get_or cells at 0) here in
    rw c.from.ensures (record {
      cells = λ i below. elim (cases_lt i at) [
        | inl earlier ↦ still.kept (get_or cells i 0) (before.cells i earlier)
        | inr last ↦ (
            let same : at ≡ i = omega (arith, last, below) in
            subst (λ (j : ℕ). IsNeeded (set old (get_or cells at 0) true) (get_or cells j 0)) same (mark-needed old (get_or cells at 0) here))
      ];
      kept = still-again c.args.needed.now old (set old (get_or cells at 0) true) before.kept still;
    })
