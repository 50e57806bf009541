use Rattle.record_commands.proofs.Studied.{match-rights, plain-rights}
use Rattle.record_commands.proofs.studying.study_replayed.Goals as goal

pub returns-then-is_match-clause-right : goal.returns-then-is_match-clause-right
returns-then-is_match-clause-right g c = match-rights c.args.rec.now c.args.decisions c.requires.right.right _ _ _ c.study_match.result c.study_match.ensures

pub returns-else-is_match-clause-right : goal.returns-else-is_match-clause-right
returns-else-is_match-clause-right g c = plain-rights c.args.rec.now c.args.decisions c.requires.right.right _ _ c.study.result c.study.ensures
