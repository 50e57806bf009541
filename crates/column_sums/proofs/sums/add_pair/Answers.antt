use Rattle.std.proofs.Common.{◌≡◌, ◌<◌, ◌∙◌, ℕ, ℤ, pos, ◌+ℤ◌, ◌*ℤ◌, length, get_or, arith, ap}
use Rattle.position_rank.specs.Placement.{Placement}
use Rattle.directed_fixed.specs.declared.bounds.End.TheVariants.{Lower, Upper}
use Rattle.column_sums.specs.Cascade.{best_pair}
use Rattle.column_sums.specs.declared.cells.Reach.{Reach}
use Rattle.column_sums.specs.Sums.{PairTables, IsAdded, mover_placement, sum_at}
use Rattle.column_sums.specs.Worths.{cells_at, worth_at, worths_at}
use Rattle.column_sums.proofs.AtEnds.{added-at, length-map, map-set, read-small, read-sum, small-at}
use Rattle.column_sums.proofs.SumSteps.{sums-done, sums-rest, from-slice, pair-right}
use Rattle.column_sums.proofs.sums.add_pair.Goals as goal

abbrev no_reach : Reach
no_reach = record { cell = 0; first = 0; second = 0; third = 0 }

pub add_times-requires-clause-lower : goal.add_times-requires-clause-lower
add_times-requires-clause-lower g c = read-small c.args.sums.now c.loop-i.sums c.loop-i.i c.args.moves.now.movers c.index-sums-i.result (omega (arith, c.loop-i-test.true, c.requires.sums, c.loop-i.auto.sums)) c.index-sums-i.is c.loop-i.invariant.rest c.requires.small c.loop-i-test.true Lower

pub add_times-requires-clause-upper : goal.add_times-requires-clause-upper
add_times-requires-clause-upper g c = read-small c.args.sums.now c.loop-i.sums c.loop-i.i c.args.moves.now.movers c.index-sums-i.result (omega (arith, c.loop-i-test.true, c.requires.sums, c.loop-i.auto.sums)) c.index-sums-i.is c.loop-i.invariant.rest c.requires.small c.loop-i-test.true Upper

pub loop-i-preserved : goal.loop-i-preserved
loop-i-preserved g c =
    let moves = c.args.moves.now in
    let start = c.args.sums.now in
    let sums = c.loop-i.sums in
    let at = c.loop-i.i in
    let x = c.add_times.result in
    let best = c.best_pair-best.result in
    let mover : at < moves.movers = c.loop-i-test.true in
    let here : at < length sums = omega (arith, mover, c.requires.sums, c.loop-i.auto.sums) in
    record {
      added = λ end. (
          let was = worths_at end sums in
          let first = worths_at end start in
          let there : at < length was = omega (arith, here, length-map (worth_at end) sums) in
          let old = read-sum start sums at c.index-sums-i.result here c.index-sums-i.is c.loop-i.invariant.rest end in
          let is : worth_at end x ≡ sum_at first at +ℤ pos 2 *ℤ worth_at end best =
          added-at x c.index-sums-i.result best 2 c.add_times.ensures.lower c.add_times.ensures.upper end ∙ ap (λ (y : ℤ). y +ℤ pos 2 *ℤ worth_at end best) old in
          let right = λ (value : Placement → ℤ) (tables : PairTables value moves c.args.high c.args.low (cells_at end c.args.row.now) (cells_at end c.args.after_high.now) (cells_at end c.args.after_low.now)).
          pair-right moves c.requires.ready at mover c.args.high c.args.low c.from.result c.from-2.result (cells_at end c.args.row.now) (cells_at end c.args.after_high.now) (cells_at end c.args.after_low.now) c.index-moves-from.result c.index-moves-from-2.result (get_or c.as_slice-by_high.result.now at no_reach) (get_or c.as_slice-by_low.result.now at no_reach) (worth_at end best)
          c.requires.high.0 c.requires.high.1 c.requires.low.0 c.requires.low.1 c.from.ensures c.from-2.ensures
          (from-slice moves c.requires.ready at mover c.args.high c.from.result c.index-moves-from.result no_reach c.as_slice-by_high.result.now c.requires.high.0 c.requires.high.1 c.from.ensures c.as_slice-by_high.ensures.value)
          (from-slice moves c.requires.ready at mover c.args.low c.from-2.result c.index-moves-from-2.result no_reach c.as_slice-by_low.result.now c.requires.low.0 c.requires.low.1 c.from-2.ensures c.as_slice-by_low.ensures.value) (c.requires.after_high.each end).missing (c.requires.after_low.each end).missing (c.best_pair-best.ensures.best end) value tables in
          let P : ℕ → ℤ → ℤ → Type 0 = λ k before after. IsAdded 2 (λ (b : ℤ). (value : Placement → ℤ) → PairTables value moves c.args.high c.args.low (cells_at end c.args.row.now) (cells_at end c.args.after_high.now) (cells_at end c.args.after_low.now) → b ≡ best_pair value c.args.high c.args.low (mover_placement moves k)) before after in
          rw (map-set (worth_at end) sums at x)
          (sums-done P first was at (worth_at end x) there (c.loop-i.invariant.added end) (record { best = worth_at end best; small = small-at best c.best_pair-best.ensures.small end; sum = is; is = right })));
      rest = λ end. (
          let P : ℕ → ℤ → ℤ → Type 0 = λ k before after. before ≡ after in
          rw (map-set (worth_at end) sums at x) (sums-rest P (worths_at end start) (worths_at end sums) at (worth_at end x) (c.loop-i.invariant.rest end)));
    }
