use Rattle.cube_actions.proofs.Unlimited.{unlimited-stakes}
use Rattle.cube_actions.proofs.stakes.Stakes.unlimited.Goals as goal

pub invariant_of-result : goal.invariant_of-result
invariant_of-result c = rw (c.kinds_by.ensures, c.whole.ensures) (unlimited-stakes c.args.rule)
