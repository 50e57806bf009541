use Rattle.std.proofs.Common.{◌≡◌}
use Rattle.best_reply.specs.Sides.{AreReplyRounds}
use Rattle.whole_file_commands.proofs.reply.replies_after.Given as goal

abbrev pub invariant-loop-round : goal.invariant-loop-round
invariant-loop-round g l = record {
  words : l.table.words ≡ l.words;
  rounds : AreReplyRounds l.table l.round;
}
