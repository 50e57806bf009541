use Rattle.run_laws.proofs.MatchRuns.{true-plan}
use Rattle.run_laws.proofs.laws.plans_by_a_solved_match_are_true.Goals as goal

pub returns : goal.returns
returns c = true-plan c.texts_are_read_back.ensures.held
