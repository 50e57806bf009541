use Rattle.std.proofs.Common.{sym}
use Rattle.match_scores.proofs.Centred.{centred-near, centred-far}
use Rattle.match_scores.proofs.openings.centred.Goals as goal

pub returns-in-Near : goal.returns-in-Near
returns-in-Near c = rw c.in-Near.is (sym (centred-near c.args.score))

pub returns-in-Far : goal.returns-in-Far
returns-in-Far c = rw c.in-Far.is (sym (centred-far c.args.score))
