use Rattle.turn_rule.proofs.Sure.{sure-answer}
use Rattle.play_analyser.proofs.look_laws.sure_sources_advise.Goals as goal

pub returns-clause-weighing : goal.returns-clause-weighing
returns-clause-weighing c = λ old new stakes p k choice result sure found. sure-answer old.source old.notes new.notes old.faults new.faults _ _ result sure found

pub returns-clause-ranking : goal.returns-clause-ranking
returns-clause-ranking c = λ old new stakes p k roll result sure found. sure-answer old.source old.notes new.notes old.faults new.faults _ _ result sure found

pub returns-clause-advice : goal.returns-clause-advice
returns-clause-advice c = λ old new stakes p k result sure found. sure-answer old.source old.notes new.notes old.faults new.faults _ _ result sure found
