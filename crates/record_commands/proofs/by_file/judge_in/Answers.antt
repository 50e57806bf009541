use Rattle.record_commands.proofs.ByFile.{judging-keeps}
use Rattle.record_commands.proofs.by_file.judge_in.Goals as goal

pub returns-clause-decisions : goal.returns-clause-decisions
returns-clause-decisions g c = judging-keeps _ _ _ _ c.args.analysis.now c.judge.new.self c.judge.result c.judge.ensures.looked.answer c.judge.ensures.stopped
