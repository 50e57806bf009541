use Rattle.std.proofs.Common.{get_or, sym, subst}
use Rattle.equity_report.specs.declared.text.GameName.{GameName}
use Rattle.outside_log.specs.Log.{standing}
use Rattle.record_commands.specs.ByFile.{IsDecisionFor}
use Rattle.record_commands.proofs.Recorded.{plain-decisions, plain-judged}
use Rattle.record_commands.proofs.analyse.judge_plain.Goals as goal

pub judge_by-requires-clause-decisions : goal.judge_by-requires-clause-decisions
judge_by-requires-clause-decisions g c i d below none =
    subst (λ (wanted : GameName). IsDecisionFor wanted (get_or c.args.analysis i d).decision) (sym c.game_recorded.ensures)
    (plain-decisions c.right_decisions_can_be_judged.ensures c.args.rec.now c.requires.plain c.args.analysis c.requires.right i d below)

pub returns-in-Ok-clause-told : goal.returns-in-Ok-clause-told
returns-in-Ok-clause-told g c told =
    plain-judged c.right_decisions_can_be_judged.ensures c.args.rec.now c.requires.plain c.args.analysis c.requires.right c.analyses_enclose_what_is_lost.ensures.sound c.judge_by.new.analysis c.judge_by.ensures.decisions
    (standing (g.F.Files.log c.args.files.now) c.args.name.now) (rw (c.game_recorded.ensures) at (c.in-Ok.ensures.told told))
