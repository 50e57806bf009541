use Rattle.turn_rule.proofs.Sure.{sure-answer}
use Rattle.turn_rule.proofs.look_laws.sure_sources_answer.Goals as goal

pub returns-clause-turn : goal.returns-clause-turn
returns-clause-turn c = λ old new stakes p k result sure found. sure-answer old.source old.notes new.notes old.faults new.faults _ _ result sure found

pub returns-clause-roll : goal.returns-clause-roll
returns-clause-roll c = λ old new stakes p k factor result sure found. sure-answer old.source old.notes new.notes old.faults new.faults _ _ result sure found
