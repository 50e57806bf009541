use Rattle.move_rules.proofs.NoFault.{legal-right}
use Rattle.move_rules.proofs.laws.legal_plays_have_no_fault.Goals as goal

pub returns : goal.returns
returns c = legal-right
