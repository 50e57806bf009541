use Rattle.run_laws.proofs.TwoRuns.{true-losses}
use Rattle.run_laws.proofs.laws.analyses_by_a_solved_file_are_true.Goals as goal

pub returns : goal.returns
returns c = true-losses c.texts_are_read_back.ensures.held
