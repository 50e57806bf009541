use Rattle.std.proofs.Common.{◌≡◌, ◌∙◌, ℕ, max, nat_cmp, map, arith}
use Rattle.std.specs.Ordering.{ord_max}
use Rattle.std.proofs.lemmas.Bool.Decides.{nat_tests}
use Rattle.std.proofs.lemmas.Int.{ints}
use Rattle.race_table.specs.FreePlays.{against}
use Rattle.race_table.specs.Tables.{IsSmallRace, best_race}
use Rattle.race_table.proofs.Sums.{all-sums, best-small, ends-same, ends-some, kept-at, kept-end, kept-few, no-sums, sum-small, sums-more, value-small}
use Rattle.race_table.proofs.fill.turn_of.Goals as goal

greater_of : (m n : ℕ) → ord_max nat_cmp m n ≡ max m n
greater_of m n = grind (arith, nat_tests)

pub loop-roll-init : goal.loop-roll-init
loop-roll-init c = rw (c.whole-lower.ensures, c.whole-upper.ensures) (no-sums c.args.races.now c.args.race.now)

pub best_of-best-requires-clause-some : goal.best_of-best-requires-clause-some
best_of-best-requires-clause-some c =
    let p = c.args.race.now in
    let kept = kept-at p.mover c.args.rolls.now c.loop-roll.roll-index c.roll-item.result c.requires.rolls c.loop-roll-test.true c.roll-item.is in
    rw c.as_slice.ensures.value (ends-some p c.requires.race.race c.loop-roll.roll-index c.roll-item.result kept)

pub best_of-best-requires-clause-same : goal.best_of-best-requires-clause-same
best_of-best-requires-clause-same c =
    let p = c.args.race.now in
    let kept = kept-at p.mover c.args.rolls.now c.loop-roll.roll-index c.roll-item.result c.requires.rolls c.loop-roll-test.true c.roll-item.is in
    rw (c.as_slice.ensures.value, c.other-other.ensures.other) (ends-same p c.requires.race.race c.loop-roll.roll-index c.roll-item.result kept)

pub add_times-lower-requires-clause-sum : goal.add_times-lower-requires-clause-sum
add_times-lower-requires-clause-sum c = sum-small c.loop-roll.roll-index c.loop-roll.lower (kept-few _ c.args.rolls.now _ c.requires.rolls c.loop-roll.auto.roll-index-end) c.loop-roll.invariant.low_small

pub add_times-lower-requires-clause-times : goal.add_times-lower-requires-clause-times
add_times-lower-requires-clause-times c = (kept-at c.args.race.now.mover c.args.rolls.now c.loop-roll.roll-index c.roll-item.result c.requires.rolls c.loop-roll-test.true c.roll-item.is).times

pub add_times-lower-requires-clause-value : goal.add_times-lower-requires-clause-value
add_times-lower-requires-clause-value c =
    let small : IsSmallRace c.best_of-best.result = rw c.best_of-best.ensures (best-small c.args.races.now c.requires.table.small _) in
    rw c.lower.ensures.lower (value-small _ small.within.from (let h = small.within.to in omega (arith, ints, small.within.in_order, h)))

pub add_times-upper-requires-clause-sum : goal.add_times-upper-requires-clause-sum
add_times-upper-requires-clause-sum c = sum-small c.loop-roll.roll-index c.loop-roll.upper (kept-few _ c.args.rolls.now _ c.requires.rolls c.loop-roll.auto.roll-index-end) c.loop-roll.invariant.high_small

pub add_times-upper-requires-clause-times : goal.add_times-upper-requires-clause-times
add_times-upper-requires-clause-times c = (kept-at c.args.race.now.mover c.args.rolls.now c.loop-roll.roll-index c.roll-item.result c.requires.rolls c.loop-roll-test.true c.roll-item.is).times

pub add_times-upper-requires-clause-value : goal.add_times-upper-requires-clause-value
add_times-upper-requires-clause-value c =
    let small : IsSmallRace c.best_of-best.result = rw c.best_of-best.ensures (best-small c.args.races.now c.requires.table.small _) in
    rw c.upper.ensures.upper (value-small _ (let h = small.within.from in omega (arith, ints, small.within.in_order, h)) small.within.to)

pub loop-roll-preserved : goal.loop-roll-preserved
loop-roll-preserved c =
    let p = c.args.race.now in
    let one = c.roll-item.result in
    let kept = kept-at p.mover c.args.rolls.now c.loop-roll.roll-index one c.requires.rolls c.loop-roll-test.true c.roll-item.is in
    let best : c.best_of-best.result ≡ best_race c.args.races.now (map (against p.other) one.ends.items) = rw (c.as_slice.ensures.value, c.other-other.ensures.other) at c.best_of-best.ensures in
    sums-more c.args.races.now c.requires.table.small p c.requires.race.race c.loop-roll.roll-index one kept _ _ _ _ _ _ c.best_of-best.result c.loop-roll.invariant best
    (rw c.lower.ensures.lower at c.add_times-lower.ensures) (rw c.upper.ensures.upper at c.add_times-upper.ensures) (c.max-most.ensures ∙ greater_of c.loop-roll.most c.best_of-best.result.turns)

pub mean-requires-clause-low : goal.mean-requires-clause-low
mean-requires-clause-low c = sum-small c.loop-roll.roll-index c.loop-roll.lower (kept-few _ c.args.rolls.now _ c.requires.rolls c.loop-roll.auto.roll-index-end) c.loop-roll.invariant.low_small

pub mean-requires-clause-high : goal.mean-requires-clause-high
mean-requires-clause-high c = sum-small c.loop-roll.roll-index c.loop-roll.upper (kept-few _ c.args.rolls.now _ c.requires.rolls c.loop-roll.auto.roll-index-end) c.loop-roll.invariant.high_small

pub returns : goal.returns
returns c =
    let past = kept-end _ c.args.rolls.now c.loop-roll.roll-index c.requires.rolls c.loop-roll-test.false in
    rw c.mean.ensures (all-sums c.args.races.now c.args.race.now c.loop-roll.roll-index c.loop-roll.lower c.loop-roll.upper c.loop-roll.most past c.loop-roll.invariant)
