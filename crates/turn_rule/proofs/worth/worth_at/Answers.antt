use Rattle.std.proofs.Common.{sym}
use Rattle.turn_rule.proofs.Plays.{left-worth}
use Rattle.turn_rule.proofs.worth.worth_at.Goals as goal

pub returns-in_ok-theirs-in-None-clause-found : goal.returns-in_ok-theirs-in-None-clause-found
returns-in_ok-theirs-in-None-clause-found g c =
    left-worth _ c.args.end _ _ _ _ _ c.args.left.now c.args.kind.now c.in_ok-theirs-in-None.theirs _ (sym c.in-None.ensures) c.neg.ensures
    (rw (c.other_end.ensures, c.theirs.ensures) at c.in_ok-theirs-in-None.ensures.found)
