use Rattle.run_laws.proofs.RightRecords.{held-right}
use Rattle.run_laws.proofs.right_records.held_records_are_right.Goals as goal

pub returns : goal.returns
returns c = held-right c.decisions_are_right.ensures c.records_have_few_decisions.ensures
