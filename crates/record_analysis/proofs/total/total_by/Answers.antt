use Rattle.std.proofs.Common.{◌∙◌, sym, arith}
use Rattle.record_analysis.proofs.Sums.{total-more, total-same}
use Rattle.record_analysis.proofs.total.total_by.Goals as goal
use Rattle.record_analysis.proofs.total.total_by.Goals.{in-Some, in-None}

pub loop-judged-preserved : goal.loop-judged-preserved
loop-judged-preserved c =
    let item = c.judged-item.result in
    let before = c.loop-judged.invariant in
    elim c.match-loss_by.branch [
      | in-Some w ↦ rw w.total-is (record {
        total = total-more c.args.player c.args.list.now c.loop-judged.judged-index item c.loop-judged-test.true c.judged-item.is c.loop-judged.total w.with-total.result w.in-Some.pair
            (sym c.loss_by.ensures ∙ w.in-Some.is) before.total
            (record { decisions = w.with-total.ensures.decisions; lower = w.with-total.ensures.lower; upper = w.with-total.ensures.upper });
        few = omega (arith, w.with-total.ensures.decisions, before.few);
        small = w.with-total.ensures.small;
      })
      | in-None w ↦ rw w.total-is (record {
        total = total-same c.args.player c.args.list.now c.loop-judged.judged-index item c.loop-judged-test.true c.judged-item.is c.loop-judged.total (sym c.loss_by.ensures ∙ w.in-None.is) before.total;
        few = omega (arith, before.few);
        small = before.small;
      })
    ]
