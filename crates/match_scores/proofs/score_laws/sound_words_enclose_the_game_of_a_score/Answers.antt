use Rattle.match_scores.proofs.OneScore.{game-enclosed}
use Rattle.match_scores.proofs.score_laws.sound_words_enclose_the_game_of_a_score.Goals as goal

pub returns : goal.returns
returns c = λ checkers scored is_scored starts valid enclosed score is covers enough u more sound.
    game-enclosed c.wins_lead_down_the_ladder.ensures checkers scored is_scored score starts valid is covers enclosed enough u more sound
