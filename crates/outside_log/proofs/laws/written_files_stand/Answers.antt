use Rattle.outside_log.proofs.Written.{others-stay, stands}
use Rattle.outside_log.proofs.laws.written_files_stand.Goals as goal

pub returns-clause-stands : goal.returns-clause-stands
returns-clause-stands c = stands

pub returns-clause-others : goal.returns-clause-others
returns-clause-others c = others-stay
