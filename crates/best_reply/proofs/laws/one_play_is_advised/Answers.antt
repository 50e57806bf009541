use Rattle.best_reply.proofs.Lines.{advised-alone, is-advised, legal-advised}
use Rattle.best_reply.proofs.laws.one_play_is_advised.Goals as goal

pub returns-clause-is : goal.returns-clause-is
returns-clause-is c = λ stakes u p k roll. is-advised stakes u p k roll

pub returns-clause-alone : goal.returns-clause-alone
returns-clause-alone c = λ stakes u p k roll. advised-alone stakes u p k roll

pub returns-clause-legal : goal.returns-clause-legal
returns-clause-legal c = λ stakes u p k roll. legal-advised stakes u p k roll
