use Rattle.std.proofs.Common.{add-one}
use Rattle.turn_rule.proofs.Monotone.{rounds-tighter}
use Rattle.turn_rule.proofs.laws.rounds_tighten.Goals as goal

pub returns : goal.returns
returns c = λ game right r. rw (add-one r) (rounds-tighter game right.stakes r)
