use Rattle.run_laws.proofs.SolvedFiles.{right-score}
use Rattle.run_laws.proofs.laws.files_of_a_solved_match_are_right.Goals as goal

pub returns : goal.returns
returns c = right-score c.texts_are_read_back.ensures.held
