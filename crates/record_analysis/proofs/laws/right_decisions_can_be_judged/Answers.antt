use Rattle.record_analysis.proofs.Analysed.{can-be-judged}
use Rattle.record_analysis.proofs.laws.right_decisions_can_be_judged.Goals as goal

pub returns : goal.returns
returns c = λ rec starts decision right source stakes checkers is valid fits. can-be-judged rec starts decision right source stakes checkers is valid fits
