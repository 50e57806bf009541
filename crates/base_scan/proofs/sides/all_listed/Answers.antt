use Rattle.std.proofs.Common.{◌≡◌, ◌∙◌, sym, arith}
use Rattle.position_rank.specs.Ranks.{rank_of}
use Rattle.base_scan.specs.Sides.{IsLayoutListed}
use Rattle.base_scan.proofs.Listing.{each-more}
use Rattle.base_scan.proofs.sides.all_listed.Goals as goal

pub loop-rank-preserved : goal.loop-rank-preserved
loop-rank-preserved c =
    let before = c.loop-rank.invariant in
    let all = c.loop-rank.all.items in
    let one = c.of_rank.result in
    record {
      many = omega (arith, c.in_ok-push.ensures.len, before.many);
      each = rw c.in_ok-push.ensures.items (each-more (λ rank l. IsLayoutListed c.args.checkers l) all one before.each c.of_rank.ensures.listed);
      ranked = rw c.in_ok-push.ensures.items (each-more (λ rank l. rank_of l.layout ≡ rank) all one before.ranked (c.of_rank.ensures.rank ∙ sym before.many));
    }
