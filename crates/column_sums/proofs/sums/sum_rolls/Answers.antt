use Rattle.std.proofs.Common.{◌≡◌, ◌<◌, ◌∙◌, ℕ, length, take, arith, subst, ap, get_or}
use Rattle.std.proofs.lemmas.List.{take_all}
use Rattle.roll_table.specs.Rolls.{Dice, all_rolls}
use Rattle.turn_rule.proofs.Greatest.{length-all_rolls}
use Rattle.column_sums.specs.Sums.{AreSums, RollTables, mover_placement, ways}
use Rattle.column_sums.specs.Worths.{worths_at}
use Rattle.column_sums.proofs.SumSteps.{all-small, sum-more, small-more, few-ways, ways-at}
use Rattle.column_sums.proofs.sums.sum_rolls.Goals as goal

pub add_roll-requires-clause-small : goal.add_roll-requires-clause-small
add_roll-requires-clause-small c = λ end k h. all-small c.loop-i.i _ (c.loop-i.invariant.small end k h)

pub loop-i-preserved : goal.loop-i-preserved
loop-i-preserved c =
    let i = c.loop-i.i in
    let roll = c.nth_roll.result in
    let none : Dice × ℕ = (record { high = 1; low = 1 }, 1) in
    let here : i < length all_rolls = omega (arith, length-all_rolls, c.loop-i-test.true) in
    let is = c.nth_roll.ensures none in
    let times : ways roll ≡ (get_or all_rolls i none).1 = ap ways is ∙ ways-at i none here in
    record {
      small = λ end k h. (let a = c.add_roll.ensures end k h in small-more i (ways roll) none _ a.best _ here times (few-ways roll) (c.loop-i.invariant.small end k h) a.small a.sum);
      sums = λ end value tabled k h. (
          let a = c.add_roll.ensures end k h in
          let tables : RollTables end value c.args.moves.now c.args.row.now c.fill_ones.new.ones = record { none = tabled; each = c.fill_ones.ensures end value tabled } in
          sum-more value (mover_placement c.args.moves.now k) i (ways roll) none roll _ a.best _ here times is (c.loop-i.invariant.sums end value tabled k h) (a.is value tables) a.sum);
    }

pub returns-clause-small : goal.returns-clause-small
returns-clause-small c = λ end k h. all-small c.loop-i.i _ (c.loop-i.invariant.small end k h)

pub returns-clause-sums : goal.returns-clause-sums
returns-clause-sums c = λ end value tabled.
    let all : take c.loop-i.i all_rolls ≡ all_rolls = take_all c.loop-i.i all_rolls (omega (arith, length-all_rolls, c.loop-i-test.false)) in
    subst (λ (rolls : _). AreSums value c.args.moves.now rolls (worths_at end c.loop-i.sums)) all (c.loop-i.invariant.sums end value tabled)
