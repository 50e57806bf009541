use Rattle.std.proofs.Common.{◌≤◌, arith}
use Rattle.position_rank.specs.Ranks.{layouts}
use Rattle.turn_rule.specs.Turn.{turn}
use Rattle.best_reply.specs.Tables.{words_by}
use Rattle.best_reply.proofs.ColumnLemmas.{all-columns}
use Rattle.best_reply.proofs.columns.sweep_columns.Goals as goal

pub returns-clause-filled : goal.returns-clause-filled
returns-clause-filled c =
    let game = c.args.words.now.game in
    let past : layouts game.checkers ≤ c.loop-other.other = omega (arith, c.loop-other-test.false, c.layouts-other-end.ensures.layouts, c.requires.room.layouts.many) in
    all-columns game (turn game.stakes (words_by c.args.old.now)) c.loop-other.other c.loop-other.new past c.loop-other.invariant.filled
