use Rattle.record_analysis.proofs.Analysed.{analysis-encloses}
use Rattle.record_analysis.proofs.laws.analyses_enclose_what_is_lost.Goals as goal

pub returns-clause-from : goal.returns-clause-from
returns-clause-from c = λ game right enough u sound decisions are turns late. analysis-encloses game right enough u sound decisions are turns late

pub returns-clause-sound : goal.returns-clause-sound
returns-clause-sound c = λ game right u sound decisions are. (sound.0, λ turns late. analysis-encloses game right sound.0 u sound.1 decisions are turns late)
