use Rattle.turn_rule.proofs.Values.{rolled}
use Rattle.turn_rule.proofs.value.roll_at.Goals as goal

pub returns-clause-found : goal.returns-clause-found
returns-clause-found g c =
    rolled _ c.args.end (g.P.Pairs.seen c.args.pairs.now).source c.args.stakes.now c.args.ends.now c.args.number c.args.factor _ _ _ _ c.in_ok-sum.sum _ c.mean_of.ensures c.in_ok-sum.ensures.found
