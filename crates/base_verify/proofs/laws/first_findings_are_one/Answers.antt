use Rattle.base_verify.proofs.Whole.{one-first}
use Rattle.base_verify.proofs.laws.first_findings_are_one.Goals as goal

pub returns : goal.returns
returns c = one-first
