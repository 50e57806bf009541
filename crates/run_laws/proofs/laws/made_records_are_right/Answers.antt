use Rattle.run_laws.proofs.SolvedFiles.{right-made}
use Rattle.run_laws.proofs.laws.made_records_are_right.Goals as goal

pub returns : goal.returns
returns c = right-made c.printed_records_are_held.ensures.held
