use Rattle.match_scores.proofs.OneScore.{payoffs-within}
use Rattle.match_scores.proofs.score_laws.enclosing_starts_bound_the_payoffs.Goals as goal

pub returns : goal.returns
returns c = λ checkers scored is_scored starts valid enclosed score is covers.
    payoffs-within c.wins_lead_down_the_ladder.ensures checkers scored is_scored score starts valid is covers enclosed
