use Rattle.std.proofs.Common.{◌<◌, length, ◌∙◌, sym, arith}
use Rattle.position_rank.specs.Ranks.{layouts}
use Rattle.position_rank.proofs.RowLaws.{first-more}
use Rattle.position_rank.proofs.points.all_other_points.Goals as goal

pub loop-rank-preserved : goal.loop-rank-preserved
loop-rank-preserved c =
    let before = c.loop-rank.invariant in
    let found = c.unrank.ensures in
    let room : length c.loop-rank.all.items < layouts c.args.checkers = omega (arith, before.many, c.loop-rank-test.true, c.layout_count-rank-end.ensures.count) in
    record {
      points = rw c.push.ensures.items (first-more c.args.checkers c.of.result c.loop-rank.all.items _ before.points room found.valid found.checkers (found.rank ∙ sym before.many) c.of.ensures);
      many = omega (arith, c.push.ensures.len, before.many);
    }
