use Rattle.outside_log.proofs.Logs.{stay}
use Rattle.outside_log.proofs.laws.files_stay_till_one_takes_a_place.Goals as goal

pub returns : goal.returns
returns c = stay
