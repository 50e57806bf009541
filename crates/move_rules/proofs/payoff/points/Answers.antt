use Rattle.std.proofs.Common.{sym, arith}
use Rattle.move_rules.proofs.WonCases.{not-won, single, backgammon, gammon}
use Rattle.move_rules.proofs.payoff.points.Goals as goal

pub returns-then-mover_at-checkers : goal.returns-then-mover_at-checkers
returns-then-mover_at-checkers c =
    sym (not-won c.args.position.now (omega (arith, c.if-mover_at-checkers.true, c.mover_at.ensures, c.checkers.ensures.checkers)))

pub returns-then-other_at-gt0 : goal.returns-then-other_at-gt0
returns-then-other_at-gt0 c =
    sym (single c.args.position.now (omega (arith, c.if-mover_at-checkers.false, c.mover_at.ensures, c.checkers.ensures.checkers))
    (omega (arith, c.if-other_at-gt0.true, c.other_at.ensures)))

pub returns-then-other_above-gt0 : goal.returns-then-other_above-gt0
returns-then-other_above-gt0 c =
    sym (backgammon c.args.position.now (omega (arith, c.if-mover_at-checkers.false, c.mover_at.ensures, c.checkers.ensures.checkers))
    (omega (arith, c.if-other_at-gt0.false, c.other_at.ensures)) (omega (arith, c.if-other_above-gt0.true, c.other_above.ensures)))

pub returns-else-other_above-gt0 : goal.returns-else-other_above-gt0
returns-else-other_above-gt0 c =
    sym (gammon c.args.position.now (omega (arith, c.if-mover_at-checkers.false, c.mover_at.ensures, c.checkers.ensures.checkers))
    (omega (arith, c.if-other_at-gt0.false, c.other_at.ensures)) (omega (arith, c.if-other_above-gt0.false, c.other_above.ensures)))
