use Rattle.cube_text.proofs.KindsRead.{printed_read}
use Rattle.cube_text.proofs.kinds.printed_kinds_are_read.Goals as goal

pub returns : goal.returns
returns c = printed_read
