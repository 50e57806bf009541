use Rattle.std.proofs.Common.{◌∙◌, pos, ◌≤ℤ◌, ◌≤◌, take}
use Rattle.std.proofs.lemmas.Result.{err_from_is_err_and}
use Rattle.roll_table.specs.Rolls.{all_rolls}
use Rattle.cube_actions.specs.Stakes.{kind_at}
use Rattle.turn_rule.proofs.Greatest.{total}
use Rattle.turn_rule.proofs.Within.{bound-positive, bound-small}
use Rattle.turn_rule.proofs.Found.{then-err}
use Rattle.turn_rule.proofs.RollSums.{kept-at, leave-states, wins-within, next-roll, all-rolls, stopped-roll, sum-small, few-rolls, rolled-end}
use Rattle.turn_rule.proofs.sum.sum_at.Goals as goal

pub best_at-requires-clause-states : goal.best_at-requires-clause-states
best_at-requires-clause-states g c =
    let kept = kept-at c.args.position.now c.args.kept.now c.loop-one.one-index c.one-item.result c.requires.kept c.loop-one-test.true c.one-item.is in
    rw (c.kind-kind.ensures.kind, c.as_slice.ensures.value, c.loop-one.invariant.source)
    (leave-states (g.P.Pairs.seen c.args.pairs.now).source c.args.stakes.now c.bound-bound.ensures.valid c.requires.stakes c.args.position.now c.args.number c.requires.state c.loop-one.one-index c.one-item.result kept)

pub best_at-requires-clause-wins : goal.best_at-requires-clause-wins
best_at-requires-clause-wins g c =
    rw (c.kind-kind.ensures.kind, c.loop-one.invariant.source)
    (wins-within (g.P.Pairs.seen c.args.pairs.now).source c.args.stakes.now c.bound-bound.ensures.valid c.requires.stakes c.args.number (rw c.requires.stakes.kinds at c.requires.state.kind))

pub returns-in_err-best-clause-found : goal.returns-in_err-best-clause-found
returns-in_err-best-clause-found g c =
    let s = (g.P.Pairs.seen c.args.pairs.now).source in
    let kept = kept-at c.args.position.now c.args.kept.now c.loop-one.one-index c.one-item.result c.requires.kept c.loop-one-test.true c.one-item.is in
    let stopped = rw (c.loop-one.invariant.source, c.kind-kind.ensures.kind, c.as_slice.ensures.value) at c.in_err-best.ensures.found in
    let p = err_from_is_err_and c.from_residual.result c.from_residual.ensures.1 in
    rw (p.1, p.2) (then-err s _ _ _ _ _ _ _ _ _ _ _ _ c.loop-one.sum _ c.loop-one.invariant.found stopped
    (λ damage told met. stopped-roll c.args.end s c.args.stakes.now c.args.position.now c.args.number c.loop-one.one-index c.one-item.result damage kept (c.loop-one.invariant.found.answer.right told) met))

pub add_times-sum-requires-clause-sum : goal.add_times-sum-requires-clause-sum
add_times-sum-requires-clause-sum g c =
    let s = (g.P.Pairs.seen c.args.pairs.now).source in
    let positive : pos 0 ≤ℤ s.bound = rw c.requires.stakes.bound (bound-positive c.args.stakes.now c.bound-bound.ensures.valid) in
    let small = rw (← c.requires.stakes.bound) at (bound-small c.args.stakes.now c.bound-bound.ensures.valid) in
    sum-small (total (take c.loop-one.one-index all_rolls)) s.bound c.loop-one.sum (few-rolls c.loop-one.one-index) positive small c.loop-one.invariant.found.answer.within

pub add_times-sum-requires-clause-times : goal.add_times-sum-requires-clause-times
add_times-sum-requires-clause-times g c =
    (kept-at c.args.position.now c.args.kept.now c.loop-one.one-index c.one-item.result c.requires.kept c.loop-one-test.true c.one-item.is).times

pub loop-one-preserved : goal.loop-one-preserved
loop-one-preserved g c =
    let s = (g.P.Pairs.seen c.args.pairs.now).source in
    let kept = kept-at c.args.position.now c.args.kept.now c.loop-one.one-index c.one-item.result c.requires.kept c.loop-one-test.true c.one-item.is in
    let best = rw (c.loop-one.invariant.source, c.kind-kind.ensures.kind, c.as_slice.ensures.value) at c.in_ok-best.ensures.found in
    record {
      source = c.best_at.ensures.source ∙ c.loop-one.invariant.source;
      stays = c.best_at.ensures.stays ∙ c.loop-one.invariant.stays;
      found = next-roll c.args.end s (kind_at c.args.stakes.now c.args.number) c.args.position.now _ _ _ _ _ _ _ c.loop-one.one-index c.one-item.result c.loop-one.sum c.in_ok-best.best _ kept c.add_times-sum.ensures c.loop-one.invariant.found best;
    }

pub returns-clause-found : goal.returns-clause-found
returns-clause-found g c =
    let past : 21 ≤ c.loop-one.one-index = rolled-end c.args.position.now c.args.kept.now c.loop-one.one-index c.requires.kept c.loop-one-test.false in
    all-rolls c.args.end (g.P.Pairs.seen c.args.pairs.now).source c.args.stakes.now c.args.position.now c.args.number _ _ _ _ _ c.loop-one.one-index c.loop-one.sum past c.loop-one.invariant.found
