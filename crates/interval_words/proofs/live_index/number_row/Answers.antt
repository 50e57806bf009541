use Rattle.std.proofs.Common.{◌≡◌, ◌+◌, ◌*◌, ◌≤◌, ◌<◌, ◌∙◌, ℕ, length, set, arith, ap, sym, subst}
use Rattle.std.proofs.lemmas.Bool.{iff_false}
use Rattle.std.proofs.lemmas.List.{length-set, get_or_default}
use Rattle.std.proofs.Math.Nat.{mul-le-mul_right}
use Rattle.position_rank.specs.Placement.{Placement}
use Rattle.position_rank.specs.Points.{AreMoverPoints, AreOtherPoints}
use Rattle.position_rank.specs.Ranks.{layouts}
use Rattle.position_rank.specs.LiveRanks.{layout_at, live_below}
use Rattle.position_rank.proofs.LiveLaws.{live_below-le, square-size}
use Rattle.position_rank.proofs.RowLaws.{ranked-layout, row-live, row-dead}
use Rattle.interval_words.specs.LiveIndex.{AreCounted}
use Rattle.interval_words.proofs.IndexLemmas.{counted-more}
use Rattle.interval_words.proofs.live_index.number_row.Goals as goal
use Rattle.interval_words.proofs.live_index.number_row.Goals.{then-are_live, else-are_live}

pub loop-rank-init : goal.loop-rank-init
loop-rank-init c =
    let found = c.unrank.ensures in
    let start : c.args.row * layouts c.args.checkers + 0 ≡ c.args.row * layouts c.args.checkers = omega arith in
    record {
      mover = subst (AreMoverPoints c.of-mover.result) (sym (ranked-layout c.args.checkers c.args.row _ found.valid found.checkers found.rank)) c.of-mover.ensures;
      room = c.requires.room;
      counted = subst (AreCounted c.args.checkers c.args.below.now) (sym start) c.requires.before;
      live = c.requires.live ∙ ap (live_below c.args.checkers) (sym start);
    }

-- a square of the row is one of all
inside : (checkers row rank : ℕ) → row < layouts checkers → rank < layouts checkers → row * layouts checkers + rank < layouts checkers * layouts checkers
inside checkers row rank low less = omega (arith, mul-le-mul_right (layouts checkers) (let next : row + 1 ≤ layouts checkers = omega arith in next))

pub overflow_add-live : goal.overflow_add-live
overflow_add-live c =
    let square = c.args.row * layouts c.args.checkers + c.loop-rank.rank in
    omega (
      arith,
      c.loop-rank.invariant.live,
      live_below-le c.args.checkers square,
      inside c.args.checkers c.args.row c.loop-rank.rank c.requires.row (omega (arith, c.loop-rank-test.true, c.requires.all)),
      square-size c.args.checkers c.requires.low c.requires.high,
    )

pub loop-rank-preserved : goal.loop-rank-preserved
loop-rank-preserved c =
    let checkers = c.args.checkers in
    let rank = c.loop-rank.rank in
    let before = c.loop-rank.invariant in
    let square = c.args.row * layouts checkers + rank in
    let list = c.loop-rank.below in
    let less : rank < layouts checkers = omega (arith, c.loop-rank-test.true, c.requires.all) in
    let p : Placement = record { mover = layout_at checkers c.args.row; other = layout_at checkers rank } in
    let other : AreOtherPoints c.index-others-rank.result p.other =
    rw (c.index-others-rank.is, get_or_default c.args.others.now rank c.index-others-rank.result 0 c.loop-rank-test.true) (c.requires.others.each rank c.loop-rank-test.true) in
    let right = c.are_live.ensures p before.mover other in
    let next : square + 1 ≡ c.args.row * layouts checkers + (rank + 1) = omega arith in
    let written : c.args.row * length c.args.others.now + rank ≡ square = ap (λ (n : ℕ). c.args.row * n + rank) c.requires.all in
    let room : square < length list = omega (arith, before.room, inside checkers c.args.row rank c.requires.row less) in
    let counted = subst (AreCounted checkers (set list square c.loop-rank.live)) next (counted-more checkers list square c.loop-rank.live room before.live before.counted) in
    let long = length-set list square c.loop-rank.live ∙ before.room in
    rw written (elim c.if-are_live.branch [
      | then-are_live w ↦ record {
        mover = before.mover;
        room = long;
        counted = counted;
        live = omega (arith, w.live-is, before.live, row-live checkers c.args.row rank less (right.0 w.if-are_live.true)) ∙ ap (live_below checkers) next;
      }
      | else-are_live w ↦ record {
        mover = before.mover;
        room = long;
        counted = counted;
        live = omega (arith, w.live-is, before.live, row-dead checkers c.args.row rank less (iff_false right w.if-are_live.false)) ∙ ap (live_below checkers) next;
      }
    ])
