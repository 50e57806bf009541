use Rattle.run_laws.proofs.MatchRuns.{true-match}
use Rattle.run_laws.proofs.laws.analyses_by_a_solved_match_are_true.Goals as goal

pub returns : goal.returns
returns c = true-match c.texts_are_read_back.ensures.held c.ladders_are_exact.ensures.scores c.held_records_are_right.ensures
