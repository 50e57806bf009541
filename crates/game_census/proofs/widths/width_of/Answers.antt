use Rattle.std.proofs.Common.{arith, subst}
use Rattle.cube_actions.specs.Stakes.{IsValid}
use Rattle.game_census.proofs.widths.width_of.Goals as goal

pub read_lower-requires-clause-state : goal.read_lower-requires-clause-state
read_lower-requires-clause-state c =
    c.states_are_numbered.ensures.each c.args.board.now.game
    (record { low = omega (arith, c.checkers.ensures.low, c.checkers.ensures.checkers); high = omega (arith, c.checkers.ensures.high, c.checkers.ensures.checkers); stakes = subst IsValid c.stakes.ensures c.kinds.ensures.valid }) c.args.state c.requires.state
