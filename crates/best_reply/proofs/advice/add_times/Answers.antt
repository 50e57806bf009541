use Rattle.turn_rule.proofs.Integers.{add_mono, mul_mono}
use Rattle.best_reply.proofs.advice.add_times.Goals as goal

pub new-requires : goal.new-requires
new-requires c =
    rw (c.add.ensures, c.add-2.ensures, c.times.ensures, c.times-2.ensures, c.lower.ensures.lower, c.lower-2.ensures.lower, c.upper.ensures.upper, c.upper-2.ensures.upper)
    (add_mono _ _ _ _ c.lower.ensures.in_order (mul_mono c.args.times _ _ c.requires.pair.in_order))
