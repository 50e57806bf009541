use Rattle.match_scores.proofs.WholeLadder.{solved-ladder}
use Rattle.match_scores.proofs.ladder_laws.solved_ladders_are_true_and_tight.Goals as goal

pub returns : goal.returns
returns c = λ checkers r low high starts valid words solved.
    solved-ladder c.opening_plays_go_on.ensures c.wins_lead_down_the_ladder.ensures (λ match_length from to score listed. (c.ladders_are_exact.ensures.scores match_length from to score).0 listed) checkers r low high starts valid words solved
