use Rattle.std.proofs.Common.{◌*◌, ◌^◌, length}
use Rattle.cube_actions.specs.Matches.{terms_of}
use Rattle.turn_rule.specs.Exact.{exact}
use Rattle.match_scores.proofs.Centred.{centred-terms}
use Rattle.match_scores.proofs.Starts.{start-encloses, both-ends}
use Rattle.match_scores.proofs.start_laws.words_that_enclose_give_starts_that_enclose.Goals as goal

pub returns : goal.returns
returns c = λ checkers low high score starts scoring turns u encloses.
    start-encloses c.opening_plays_go_on.ensures checkers (length (terms_of score starts).kinds) low high score (centred-terms score starts) u (exact (terms_of score starts) scoring turns) (scoring.scale * 36 ^ turns)
    (λ end p k state. both-ends end u (exact (terms_of score starts) scoring turns) (scoring.scale * 36 ^ turns) p k (encloses p k state))
