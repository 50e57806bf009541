use Rattle.std.proofs.Common.{get_or, sym, subst}
use Rattle.equity_report.specs.declared.text.GameName.{GameName}
use Rattle.record_commands.specs.ByFile.{IsDecisionFor}
use Rattle.record_commands.specs.Records.{match_length}
use Rattle.record_commands.proofs.MatchTruth.{decision-at}
use Rattle.record_commands.proofs.analyse_match.judge_at.Goals as goal

pub judge_by-requires-clause-decisions : goal.judge_by-requires-clause-decisions
judge_by-requires-clause-decisions g c i d below here =
    let rec = c.args.rec.now in
    let decision = (get_or c.args.analysis.now i d).decision in
    subst (λ (wanted : GameName). IsDecisionFor wanted decision) (sym c.game_at.ensures) (decision-at rec (match_length rec.stakes) c.args.score decision (c.requires.decisions i d below) here)
