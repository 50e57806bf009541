use Rattle.std.proofs.Common.{◌≤◌, All, length}
use Rattle.std.proofs.lemmas.Result.{IfOk-weaker}
use Rattle.game_record.specs.Replay.{IsReplay}
use Rattle.game_record.specs.RightDecisions.{IsRightDecision}
use Rattle.game_record.proofs.OneReplay.{for-memory}
use Rattle.game_record.proofs.replaying.replay.Goals as goal

pub returns-clause-complete : goal.returns-clause-complete
returns-clause-complete c = λ told replay. for-memory c.args.rec.now told c.replay_games.result c.replays_break_no_rule.ensures c.replay_games.ensures.err replay

pub returns-clause-right : goal.returns-clause-right
returns-clause-right c =
    IfOk-weaker c.replay_games.result (IsReplay c.args.rec.now) (All (IsRightDecision c.args.rec.now)) (λ told replay. c.decisions_are_right.ensures c.args.rec.now told c.requires replay) c.replay_games.ensures.ok

pub returns-clause-few : goal.returns-clause-few
returns-clause-few c =
    IfOk-weaker c.replay_games.result (IsReplay c.args.rec.now) (λ told. length told ≤ 131072) (λ told replay. c.records_have_few_decisions.ensures c.args.rec.now told c.requires replay) c.replay_games.ensures.ok
