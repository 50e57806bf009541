use Rattle.std.proofs.Common.{◌≡◌, take, pos, ◌*ℤ◌, Ok}
use Rattle.roll_table.specs.Rolls.{all_rolls}
use Rattle.cube_actions.specs.Stakes.{kind_at}
use Rattle.turn_rule.specs.Turn.{Words, worth, sum_over}
use Rattle.turn_rule.specs.Looks.{MeetsRolling}
use Rattle.turn_rule.specs.Found.{MayFollowAmong}
use Rattle.turn_rule.proofs.Found.{FindsFrom}
use Rattle.turn_rule.proofs.Greatest.{total}
use Rattle.turn_rule.proofs.sum.sum_at.Given as goal

-- the sum of the rolls so far
abbrev pub invariant-loop-one : goal.invariant-loop-one
invariant-loop-one g l =
    let s = (g.P.Pairs.seen l.fn.pairs).source in
    let kind = kind_at l.stakes l.number in
    let rolls = take l.one-index all_rolls in
    record {
      source : (g.P.Pairs.seen l.pairs).source ≡ s;
      stays : g.P.Pairs.stays l.pairs ≡ g.P.Pairs.stays l.fn.pairs;
      found : FindsFrom l.end s (g.P.Pairs.seen l.fn.pairs).notes (g.P.Pairs.seen l.pairs).notes (g.P.Pairs.seen l.fn.pairs).faults (g.P.Pairs.seen l.pairs).faults (MeetsRolling l.stakes l.position l.number s) (MayFollowAmong kind.next l.position rolls) (pos (total rolls) *ℤ s.bound) (λ (u : Words). sum_over rolls (worth l.end kind u) l.position) (Ok l.sum);
    }
