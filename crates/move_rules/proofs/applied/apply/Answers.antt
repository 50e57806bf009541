use Rattle.std.proofs.Common.{inl}
use Rattle.move_rules.proofs.NoFault.{legal-right, legal-whole}
use Rattle.move_rules.proofs.applied.apply.Goals as goal

pub returns-in_err-end-clause-legal : goal.returns-in_err-end-clause-legal
returns-in_err-end-clause-legal c = λ end legal. absurd (legal-right _ _ _ end _ legal (inl c.in_err-end.ensures.err))

pub returns-in_err-judge-clause-legal : goal.returns-in_err-judge-clause-legal
returns-in_err-judge-clause-legal c = λ end legal. absurd (legal-whole _ _ _ end _ legal c.in_err-judge.ensures.err)
