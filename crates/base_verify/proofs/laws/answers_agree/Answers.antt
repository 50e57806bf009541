use Rattle.base_verify.proofs.Answered.{answers-agree, consistent-pass}
use Rattle.base_verify.proofs.laws.answers_agree.Goals as goal

pub returns-clause-same : goal.returns-clause-same
returns-clause-same c = answers-agree

pub returns-clause-yes : goal.returns-clause-yes
returns-clause-yes c = consistent-pass
