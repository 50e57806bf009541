use Rattle.run_laws.proofs.RecordTexts.{record-held, record-numbers, record-stays}
use Rattle.run_laws.proofs.right_records.printed_records_are_held.Goals as goal

pub returns-clause-text : goal.returns-clause-text
returns-clause-text c = λ text rec is. record-stays text rec is c.plain_lines_stay.ensures.text

pub returns-clause-lines : goal.returns-clause-lines
returns-clause-lines c = λ text rec is. record-numbers text rec is c.plain_lines_stay.ensures.lines

pub returns-clause-held : goal.returns-clause-held
returns-clause-held c = λ text rec told is replay. record-held text rec is c.plain_lines_stay.ensures.text c.plain_lines_stay.ensures.lines told replay
