use Rattle.std.proofs.Common.{◌<◌, ◌≤◌, ◌*◌, ℕ, length, ap, arith}
use Rattle.std.proofs.Math.Nat.{mul-le-mul_right}
use Rattle.position_rank.specs.Ranks.{layouts}
use Rattle.position_rank.proofs.RankLaws.{rank-below}
use Rattle.column_turns.proofs.ColumnStates.{mover-square}
use Rattle.column_turns.proofs.column_turns.ColumnTurns.square.Goals as goal

pub overflow_add-result : goal.overflow_add-result
overflow_add-result c =
    let is = c.self.invariant in
    let there : c.args.i < length c.self.inside.column.movers = rw (← c.self.view_is) at c.requires in
    let here : c.args.i < length c.movers.result.now = rw c.movers.ensures.movers there in
    let inside = c.movers.ensures.within c.args.i 0 here in
    let mover : c.from-rank.result ≤ 3276 = omega (arith, inside, c.from-rank.ensures, is.few) in
    let product : c.from-rank.result * c.many.result ≤ 3276 * c.many.result = mul-le-mul_right c.many.result mover in
    let other : c.self.inside.rank < length c.self.inside.column.layouts =
    omega (arith, rank-below c.self.inside.other is.valid, ap (λ (n : ℕ). layouts n) is.many, is.all.many, is.ranked) in
    omega (arith, product, other, is.few, c.from.ensures, c.many.ensures.few)

pub returns : goal.returns
returns c =
    let is = c.self.invariant in
    let there : c.args.i < length c.self.inside.column.movers = rw (← c.self.view_is) at c.requires in
    let here : c.args.i < length c.movers.result.now = rw c.movers.ensures.movers there in
    let below = c.movers.ensures.within c.args.i 0 here in
    rw (c.from-rank.ensures, c.many.ensures.many, c.from.ensures, c.movers.ensures.movers, ← c.self.view_is)
    (mover-square c.self.inside.checkers c.self.inside.column.layouts c.self.inside.other c.self.inside.column.movers c.args.i c.self.inside.rank is.all (rw c.movers.ensures.movers at below) is.ranked)
