use Rattle.move_rules.proofs.NoFault.{written-right}
use Rattle.move_rules.proofs.laws.written_legal_plays_have_no_fault.Goals as goal

pub returns : goal.returns
returns c = written-right
