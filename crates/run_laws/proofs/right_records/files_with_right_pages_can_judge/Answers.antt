use Rattle.run_laws.proofs.RightRecords.{match-can-judge, plain-can-judge}
use Rattle.run_laws.proofs.right_records.files_with_right_pages_can_judge.Goals as goal

pub returns-clause-plain : goal.returns-clause-plain
returns-clause-plain c = plain-can-judge c.right_decisions_can_be_judged.ensures

pub returns-clause-scores : goal.returns-clause-scores
returns-clause-scores c = match-can-judge c.right_decisions_can_be_judged.ensures
