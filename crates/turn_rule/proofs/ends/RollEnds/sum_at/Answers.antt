use Rattle.turn_rule.proofs.ends.RollEnds.sum_at.Goals as goal

pub returns-clause-found : goal.returns-clause-found
returns-clause-found g c = rw c.self.view_is at c.sum_at.ensures.found
