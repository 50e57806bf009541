use Rattle.std.proofs.Common.{◌<◌, length, ap, sym, subst, arith}
use Rattle.cube_actions.specs.declared.phase.Phase.{Phase}
use Rattle.cube_actions.specs.Scores.{MatchScore, IsScore}
use Rattle.cube_actions.specs.Matches.{next_score}
use Rattle.cube_actions.specs.Ladder.{ladder}
use Rattle.cube_actions.specs.Starts.{ladder_place}
use Rattle.cube_actions.proofs.WinsLeadDown.{listed-valid}
use Rattle.cube_actions.proofs.stakes.matches.MatchGame.next_value.Goals as goal

pub next_score-next-requires : goal.next_score-next-requires
next_score-next-requires c =
    let game = c.args.self.now in
    let starts = game.have_starts in
    let next = next_score game.score.phase c.args.own c.args.others in
    let listed : ladder_place game.starts.now.match_length next < length (ladder game.starts.now.match_length) = omega (arith, c.requires, starts.room) in
    subst (λ (phase : Phase). IsScore (next_score phase c.args.own c.args.others)) (ap (λ (s : MatchScore). s.phase) (sym c.score.view_is)) (listed-valid game.starts.now.match_length starts.from starts.to next listed)
