use Rattle.std.proofs.Common.{arith}
use Rattle.cube_actions.proofs.WinsLeadDown.{after_win-before}
use Rattle.cube_actions.proofs.stakes.matches.MatchGame.value_of_win.Goals as goal

pub next_value-requires : goal.next_value-requires
next_value-requires c =
    let game = c.args.self.now in
    let starts = game.have_starts in
    let before = after_win-before game.starts.now.match_length starts.from starts.to game.score c.needs-own.ensures.valid game.covered.listed c.args.winner c.args.won c.requires (omega (arith, c.needs-own.ensures.needs)) in
    rw (c.needs-own.ensures.needs, c.needs-others.ensures.needs, c.other.ensures) (omega (arith, before, game.covered.held))
