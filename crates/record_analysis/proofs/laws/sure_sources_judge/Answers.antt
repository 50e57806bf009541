use Rattle.turn_rule.proofs.Sure.{sure-answer}
use Rattle.record_analysis.proofs.laws.sure_sources_judge.Goals as goal

pub returns : goal.returns
returns c = λ old new score stakes before after result sure found. sure-answer old.source old.notes new.notes old.faults new.faults _ _ result sure found
