use Rattle.run_laws.proofs.SolvedFiles.{right-solved}
use Rattle.run_laws.proofs.laws.solved_files_are_right.Goals as goal

pub returns : goal.returns
returns c = right-solved c.texts_are_read_back.ensures.held
