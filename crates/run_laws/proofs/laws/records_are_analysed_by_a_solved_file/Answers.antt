use Rattle.run_laws.proofs.SolvedFiles.{right-analysis}
use Rattle.run_laws.proofs.laws.records_are_analysed_by_a_solved_file.Goals as goal

pub returns : goal.returns
returns c = right-analysis c.texts_are_read_back.ensures.held c.files_with_right_pages_can_judge.ensures.plain c.held_records_are_right.ensures
