use Rattle.run_laws.proofs.MatchRuns.{good-score}
use Rattle.run_laws.proofs.laws.advice_at_a_solved_score_loses_at_most_its_printed_bounds.Goals as goal

pub returns : goal.returns
returns c = good-score c.texts_are_read_back.ensures.held
