use Rattle.std.proofs.Common.{refl, arith}
use Rattle.worker_team.proofs.team.Team.join.Goals as goal

pub returns-then-self-lt3-clause-first : goal.returns-then-self-lt3-clause-first
returns-then-self-lt3-clause-first g c = (_, omega arith, (_, c.f.ensures, refl))

pub returns-clause-first : goal.returns-clause-first
returns-clause-first g c = (_, omega (arith, c.self.view_is), c.join.ensures.first)
