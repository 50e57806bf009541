use Rattle.std.proofs.Common.{◌≡◌, ◌+◌, ◌*◌, ◌<◌, sym, subst, arith}
use Rattle.std.proofs.lemmas.Bool.{iff_false}
use Rattle.std.proofs.lemmas.List.{get_or_default}
use Rattle.position_rank.specs.Placement.{Placement}
use Rattle.position_rank.specs.Points.{AreMoverPoints, AreOtherPoints}
use Rattle.position_rank.specs.Ranks.{layouts}
use Rattle.position_rank.specs.LiveRanks.{layout_at}
use Rattle.position_rank.proofs.RowLaws.{ranked-layout, row-live, row-dead, layouts-in}
use Rattle.position_rank.proofs.live.count_row.Goals as goal
use Rattle.position_rank.proofs.live.count_row.Goals.{then-are_live, else-are_live}

pub loop-other-init : goal.loop-other-init
loop-other-init c =
    let found = c.unrank.ensures in
    let none : c.args.row * layouts c.args.checkers + 0 ≡ c.args.row * layouts c.args.checkers = omega arith in
    record {
      mover = subst (AreMoverPoints c.of-mover.result) (sym (ranked-layout c.args.checkers c.args.row _ found.valid found.checkers found.rank)) c.of-mover.ensures;
      so_far = rw none (omega arith);
      small = omega arith;
    }

pub overflow_add-live : goal.overflow_add-live
overflow_add-live c = omega (arith, c.loop-other.invariant.small, c.loop-other-test.true, c.requires.others.few, (layouts-in c.args.checkers c.requires.low c.requires.high).1)

pub loop-other-preserved : goal.loop-other-preserved
loop-other-preserved c =
    let before = c.loop-other.invariant in
    let index = c.loop-other.other-index in
    let checkers = c.args.checkers in
    let inside : index < layouts checkers = omega (arith, c.loop-other-test.true, c.requires.others.few) in
    let p : Placement = record { mover = layout_at checkers c.args.row; other = layout_at checkers index } in
    let other : AreOtherPoints c.other-item.result p.other = rw (c.other-item.is, get_or_default c.args.others.now index c.other-item.result 0 c.loop-other-test.true) (c.requires.others.each index c.loop-other-test.true) in
    let right = c.are_live.ensures p before.mover other in
    let next : c.args.row * layouts checkers + (index + 1) ≡ c.args.row * layouts checkers + index + 1 = omega arith in
    elim c.if-are_live.branch [
      | then-are_live w ↦ record {
        mover = before.mover;
        so_far = rw next (omega (arith, row-live checkers c.args.row index inside (right.0 w.if-are_live.true), before.so_far, w.live-is));
        small = omega (arith, before.small, w.live-is);
      }
      | else-are_live w ↦ record {
        mover = before.mover;
        so_far = rw next (omega (arith, row-dead checkers c.args.row index inside (iff_false right w.if-are_live.false), before.so_far, w.live-is));
        small = omega (arith, before.small, w.live-is);
      }
    ]
