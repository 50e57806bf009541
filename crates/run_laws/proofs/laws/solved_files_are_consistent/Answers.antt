use Rattle.run_laws.proofs.TwoRuns.{solved-consistent}
use Rattle.run_laws.proofs.laws.solved_files_are_consistent.Goals as goal

pub returns : goal.returns
returns c = solved-consistent c.texts_are_read_back.ensures.held
