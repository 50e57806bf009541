use Rattle.std.proofs.Common.{◌<◌, ◌+◌, ◌*◌, length, arith}
use Rattle.column_turns.specs.Columns.{pair_in}
use Rattle.best_reply.proofs.Filling.{put-more, put-none}
use Rattle.best_reply.proofs.columns.put_pairs.Goals as goal

pub loop-number-init : goal.loop-number-init
loop-number-init c = put-none c.args.rank (pair_in c.args.turns.now c.args.i) c.args.bank.now

pub loop-number-preserved : goal.loop-number-preserved
loop-number-preserved c =
    let old = c.args.bank.now in
    let mid = c.loop-number.bank in
    let n = c.loop-number.number in
    let before = c.loop-number.invariant in
    let kind : n < old.kinds = omega (arith, c.loop-number-test.true, c.kinds-number-end.ensures, c.requires.kinds) in
    let room : c.args.rank * mid.kinds + n < length mid.pairs = rw (before.kinds, before.many) (c.requires.inside n kind) in
    put-more c.args.rank (pair_in c.args.turns.now c.args.i) old n mid c.set.new.self c.pair.result before kind room c.pair.ensures c.set.ensures
