use Rattle.cube_actions.proofs.WinsLeadDown.{after_win-before, listed-valid}
use Rattle.cube_actions.proofs.match_laws.wins_lead_down_the_ladder.Goals as goal

pub returns : goal.returns
returns c = λ n score winner won from to listed. after_win-before n from to score (listed-valid n from to score listed) listed winner won
