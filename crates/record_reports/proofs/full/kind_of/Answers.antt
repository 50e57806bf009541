use Rattle.std.proofs.Common.{◌<◌, length, sym, subst}
use Rattle.cube_actions.specs.Stakes.{Terms}
use Rattle.record_reports.proofs.full.kind_of.Goals as goal

pub kind_name-requires : goal.kind_name-requires
kind_name-requires c =
    let made = c.stakes_scored-stakes.ensures in
    subst (λ (stakes : Terms). c.args.decision.now.kind < length stakes.kinds) (sym made.1) (c.requires.right.kind made.0)
