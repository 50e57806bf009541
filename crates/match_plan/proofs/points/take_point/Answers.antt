use Rattle.std.proofs.Common.{rules}
use Rattle.match_plan.specs.Points.{IsTakePointKnown}
use Rattle.match_plan.proofs.Enclosing.{take-chance, take-encloses}
use Rattle.match_plan.proofs.points.take_point.Goals as goal

pub returns-then-is_take_point_known-clause-chance : goal.returns-then-is_take_point_known-clause-chance
returns-then-is_take_point_known-clause-chance c =
    let lose = c.args.lose in
    let pass = c.args.pass in
    let win = c.args.win in
    let known : IsTakePointKnown lose pass win = search rules in
    rw c.take_bounds.ensures (take-chance lose pass win c.requires.lose.in_order c.requires.pass.in_order c.requires.win.in_order known)

pub returns-then-is_take_point_known-clause-encloses : goal.returns-then-is_take_point_known-clause-encloses
returns-then-is_take_point_known-clause-encloses c =
    let lose = c.args.lose in
    let pass = c.args.pass in
    let win = c.args.win in
    let known : IsTakePointKnown lose pass win = search rules in
    rw c.take_bounds.ensures (take-encloses lose pass win c.requires.lose.in_order c.requires.pass.in_order c.requires.win.in_order known)
