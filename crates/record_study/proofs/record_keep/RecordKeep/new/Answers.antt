use Rattle.record_study.proofs.Keeping.{none-judged}
use Rattle.record_study.proofs.record_keep.RecordKeep.new.Goals as goal

pub invariant_of-result : goal.invariant_of-result
invariant_of-result c = none-judged c.args.checkers c.args.rounds c.args.match_length c.new.result c.new.ensures c.args.analysis c.requires.decisions c.requires.fresh
