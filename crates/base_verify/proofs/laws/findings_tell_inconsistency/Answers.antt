use Rattle.base_verify.proofs.Whole.{never-holds}
use Rattle.base_verify.proofs.laws.findings_tell_inconsistency.Goals as goal

pub returns : goal.returns
returns c = λ words f is consistent. never-holds words f is (consistent f.side f.position f.kind is.state)
