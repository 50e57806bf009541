use Rattle.base_head.proofs.FrontTexts.{digest-read, front-exactly, head-read, header-read}
use Rattle.base_head.proofs.laws.fronts_are_read_back.Goals as goal

pub returns-clause-exactly : goal.returns-clause-exactly
returns-clause-exactly c = front-exactly

pub returns-clause-read : goal.returns-clause-read
returns-clause-read c = λ version head bytes is. (header-read version head bytes is, head-read version head bytes is, digest-read version head bytes is)
