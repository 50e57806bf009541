use Rattle.cube_text.proofs.KindsRead.{read_printed}
use Rattle.cube_text.proofs.kinds.read_kinds_are_printed.Goals as goal

pub returns : goal.returns
returns c = read_printed
