use Rattle.std.proofs.Common.{rules}
use Rattle.match_plan.specs.Points.{IsGammonPriceKnown}
use Rattle.match_plan.proofs.Enclosing.{price-encloses}
use Rattle.match_plan.proofs.points.gammon_price.Goals as goal

pub returns-then-is_gammon_price_known-clause-encloses : goal.returns-then-is_gammon_price_known-clause-encloses
returns-then-is_gammon_price_known-clause-encloses c =
    let lose = c.args.lose in
    let win = c.args.win in
    let gammon = c.args.gammon in
    let known : IsGammonPriceKnown lose win gammon = search rules in
    rw c.price_bounds.ensures (price-encloses lose win gammon c.requires.lose.in_order c.requires.win.in_order c.requires.gammon.in_order known)
