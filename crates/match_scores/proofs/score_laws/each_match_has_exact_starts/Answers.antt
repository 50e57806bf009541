use Rattle.match_scores.proofs.ExactStarts.{has-starts, no-others}
use Rattle.match_scores.proofs.score_laws.each_match_has_exact_starts.Goals as goal

pub returns : goal.returns
returns c = record {
  some = λ checkers turns scale ends some within. has-starts checkers turns scale ends some within;
  no_other = λ checkers scored is_scored starts others_are. no-others checkers scored starts is_scored others_are;
}
