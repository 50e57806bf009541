use Rattle.plain_record.proofs.PlainLines.{numbers-stay, text-stays}
use Rattle.plain_record.proofs.laws.plain_lines_stay.Goals as goal

pub returns-clause-text : goal.returns-clause-text
returns-clause-text c = text-stays

pub returns-clause-lines : goal.returns-clause-lines
returns-clause-lines c = numbers-stay
