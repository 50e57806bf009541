use Rattle.run_laws.proofs.RightRecords.{right-analysed, right-studied}
use Rattle.run_laws.proofs.right_records.right_records_are_not_refused.Goals as goal

pub returns-clause-study : goal.returns-clause-study
returns-clause-study c = right-studied c.record_texts_have_no_fault.ensures c.texts_tell_records.ensures c.replays_break_no_rule.ensures

pub returns-clause-analyse : goal.returns-clause-analyse
returns-clause-analyse c = right-analysed c.record_texts_have_no_fault.ensures c.texts_tell_records.ensures c.records_tell_their_decisions.ensures c.replays_break_no_rule.ensures
