use Rattle.run_laws.proofs.MatchRuns.{consistent-score}
use Rattle.run_laws.proofs.laws.files_of_a_solved_match_are_consistent.Goals as goal

pub returns : goal.returns
returns c = consistent-score c.texts_are_read_back.ensures.held
