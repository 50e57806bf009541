use Rattle.record_analysis.proofs.Analysed.{analysis-tighter}
use Rattle.record_analysis.proofs.Sums.{totals-tighter}
use Rattle.record_analysis.proofs.laws.tighter_words_give_tighter_analyses.Goals as goal

pub returns-clause-pairs : goal.returns-clause-pairs
returns-clause-pairs c = λ game right other stakes u v words decisions are. analysis-tighter game right other stakes u v words decisions are

pub returns-clause-totals : goal.returns-clause-totals
returns-clause-totals c = λ list others player tight. totals-tighter list others player tight
