use Rattle.std.proofs.Common.{◌≡◌, ℕ, length, subst, arith}
use Rattle.column_sums.specs.Listings.{AreUnmarked}
use Rattle.column_sums.proofs.Listed.{unmark-more}
use Rattle.column_sums.proofs.listing.unmark.Goals as goal

pub loop-i-preserved : goal.loop-i-preserved
loop-i-preserved c =
    let cells = c.args.cells.now in
    let here = c.requires.within c.loop-i.i c.loop-i-test.true in
    rw c.from.ensures (unmark-more cells c.args.count c.loop-i.i c.args.marks.now c.loop-i.marks c.loop-i.invariant (omega (arith, here, c.loop-i.auto.marks)) c.loop-i.auto.i)

pub returns : goal.returns
returns c = record {
  unmarked = (let end : c.loop-i.i ≡ length c.args.cells.now = omega (arith, c.loop-i-test.false, c.loop-i.auto.i-end, c.requires.count) in
      subst (λ (n : ℕ). AreUnmarked c.args.cells.now c.args.count n c.args.marks.now c.loop-i.marks) end c.loop-i.invariant);
}
