use Rattle.std.proofs.Common.{◌∙◌, List, [], ◌∷◌, ◌++◌, ap, sym, arith}
use Rattle.directed_fixed.specs.Bounds.{Bounds}
use Rattle.play_analyser.proofs.OtherRows.{another-more, same-more}
use Rattle.play_analyser.proofs.losses.other_pairs.Goals as goal
use Rattle.play_analyser.proofs.losses.other_pairs.Goals.{then-not-same, else-not-same}

pub loop-row-preserved : goal.loop-row-preserved
loop-row-preserved c =
    let end = c.args.end.now in
    let rows = c.args.rows.now in
    let i = c.loop-row.row-index in
    let row = c.row-item.result in
    elim c.if-not-same.branch [
      | then-not-same w ↦ rw (w.others-is) (record {
        few = omega (arith, w.push.ensures.len, c.loop-row.invariant.few);
        others = w.push.ensures.items ∙ (ap (λ (xs : List Bounds). xs ++ row.pair ∷ []) c.loop-row.invariant.others ∙ sym (another-more end rows i row c.loop-row-test.true c.row-item.is (sym c.same.ensures ∙ w.if-not-same.true)));
      })
      | else-not-same w ↦ rw (w.others-is) (record {
        few = omega (arith, c.loop-row.invariant.few);
        others = c.loop-row.invariant.others ∙ sym (same-more end rows i row c.loop-row-test.true c.row-item.is (sym c.same.ensures ∙ w.if-not-same.false));
      })
    ]
