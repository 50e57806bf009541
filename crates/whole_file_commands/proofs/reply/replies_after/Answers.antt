use Rattle.std.proofs.Common.{◌≡◌, ◌∙◌, arith}
use Rattle.whole_file_commands.proofs.ReplyFiles.{after-rounds}
use Rattle.whole_file_commands.proofs.reply.replies_after.Goals as goal

pub loop-round-preserved : goal.loop-round-preserved
loop-round-preserved g c = record {
  words = c.sweep_all.ensures.words ∙ c.loop-round.invariant.words;
  rounds = c.sweep_all.ensures.rounds c.loop-round.round c.loop-round.invariant.rounds;
}

pub returns : goal.returns
returns g c =
    let reached = c.loop-round.invariant in
    let last : c.loop-round.round ≡ c.args.rounds = omega (arith, c.loop-round-test.false, c.loop-round.auto.round-end) in
    after-rounds c.args.words.now c.args.rounds c.args.position.now c.args.kind c.loop-round.table.words c.loop-round.round reached.words last _
    (c.follow.ensures.rounds c.loop-round.round reached.rounds) (c.reply.ensures.rounds c.loop-round.round reached.rounds) c.pair.ensures.pair
