use Rattle.record_reports.proofs.LostMost.{worst-count, worst-order}
use Rattle.record_reports.proofs.laws.none_left_out_lost_more.Goals as goal

pub returns-clause-in_order : goal.returns-clause-in_order
returns-clause-in_order c = worst-order

pub returns-clause-same : goal.returns-clause-same
returns-clause-same c = λ list is_such. worst-count is_such list
