use Rattle.std.proofs.Common.{◌*◌, ◌<◌, arith, sym}
use Rattle.std.proofs.lemmas.Bool.{iff_false}
use Rattle.position_rank.specs.Ranks.{layouts}
use Rattle.position_rank.proofs.LiveLaws.{live_below-none, live-counts, dead-counts, square-left, square-size}
use Rattle.position_rank.proofs.live.live_unrank.Goals as goal
use Rattle.position_rank.proofs.live.live_unrank.Goals.{then-is_live+else-seen-rank, else-is_live}

pub loop-position-init : goal.loop-position-init
loop-position-init c = record { so_far = sym (live_below-none c.args.checkers); few = omega arith }

pub square_unrank-position-requires-clause-square : goal.square_unrank-position-requires-clause-square
square_unrank-position-requires-clause-square c = square-left c.args.checkers _ _ _ _ c.requires.rank c.loop-position.invariant.few c.loop-position.invariant.so_far

inside : (c : goal.Joined-is_live) → c.loop-position.square < layouts c.args.checkers * layouts c.args.checkers
inside c = square-left c.args.checkers _ _ _ _ c.requires.rank c.loop-position.invariant.few c.loop-position.invariant.so_far

pub overflow_add-square : goal.overflow_add-square
overflow_add-square c = omega (arith, inside c, square-size c.args.checkers c.requires.low c.requires.high)

pub loop-position-smaller : goal.loop-position-smaller
loop-position-smaller c = let below = inside c in omega arith

pub loop-position-preserved : goal.loop-position-preserved
loop-position-preserved c =
    let found = c.square_unrank-position.ensures in
    elim c.if-is_live.branch [
      | then-is_live+else-seen-rank w ↦ (
          let more = live-counts c.args.checkers c.loop-position.square _ found.valid found.checkers found.rank (c.is_live.ensures.0 w.if-is_live.true) in
          record { so_far = omega (arith, more, w.seen-is); few = omega (arith, w.seen-is, w.if-seen-rank.false) })
      | else-is_live w ↦ (
          let same = dead-counts c.args.checkers c.loop-position.square _ found.valid found.checkers found.rank (iff_false c.is_live.ensures w.if-is_live.false) in
          record { so_far = omega (arith, same, w.seen-is); few = omega (arith, w.seen-is) })
    ]
