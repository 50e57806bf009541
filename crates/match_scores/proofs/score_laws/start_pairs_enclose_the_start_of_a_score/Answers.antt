use Rattle.match_scores.proofs.OneScore.{start-enclosed}
use Rattle.match_scores.proofs.score_laws.start_pairs_enclose_the_start_of_a_score.Goals as goal

pub returns : goal.returns
returns c = λ checkers low high scored score mean starts u encloses.
    start-enclosed checkers scored score starts mean c.opening_plays_go_on.ensures low high u encloses
