use Rattle.std.proofs.Common.{length}
use Rattle.cube_actions.specs.Matches.{terms_of}
use Rattle.match_scores.proofs.Centred.{centred-terms}
use Rattle.match_scores.proofs.Starts.{start-tighter}
use Rattle.match_scores.proofs.start_laws.tighter_words_tighten_starts.Goals as goal

pub returns : goal.returns
returns c = λ checkers low high score starts u v tight.
    start-tighter c.opening_plays_go_on.ensures checkers (length (terms_of score starts).kinds) low high score (centred-terms score starts) u v tight
