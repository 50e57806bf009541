use Rattle.run_laws.proofs.SolvedFiles.{right-match-analysis}
use Rattle.run_laws.proofs.laws.records_are_analysed_by_a_solved_match.Goals as goal

pub returns : goal.returns
returns c = right-match-analysis c.texts_are_read_back.ensures.held c.files_with_right_pages_can_judge.ensures.scores c.held_records_are_right.ensures c.ladders_are_exact.ensures.scores
