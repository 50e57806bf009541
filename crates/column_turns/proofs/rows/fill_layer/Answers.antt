use Rattle.std.proofs.Common.{◌≡◌, ◌<◌, ℕ, ◌∙◌, ◌↔◌, IsTrue, length, sym, subst, arith}
use Rattle.std.proofs.lemmas.List.{get_or_default}
use Rattle.position_rank.specs.Placement.{Placement, IsLive, swap}
use Rattle.position_rank.specs.Points.{AreMoverPoints, AreOtherPoints}
use Rattle.column_sums.specs.Leaps.{layout_at}
use Rattle.column_turns.specs.Rows.{AreFoundRowsTo}
use Rattle.column_turns.proofs.Laters.{later-trans}
use Rattle.column_turns.proofs.RowsFound.{rows-more, rows-none}
use Rattle.column_turns.proofs.rows.fill_layer.Goals as goal
use Rattle.column_turns.proofs.rows.fill_layer.Goals.{in-None, in-Some}

pub fill_cell-requires-clause-live : goal.fill_cell-requires-clause-live
fill_cell-requires-clause-live g c =
    let rank = c.loop-rank.rank in
    let layouts = c.args.column.now.layouts in
    let other = layout_at c.args.column.now.others c.args.layer in
    let inside : rank < length layouts = omega (arith, c.loop-rank-test.true, c.many-rank-end.ensures.many) in
    let there : rank < length c.args.points.now = omega (arith, inside, c.requires.points.many) in
    let theirs : AreMoverPoints c.of-theirs.result other = rw c.layer.ensures at c.of-theirs.ensures in
    let mover : AreOtherPoints c.index-points-rank.result (layout_at layouts rank) =
    rw (c.index-points-rank.is, get_or_default c.args.points.now rank c.index-points-rank.result 0 there) (c.requires.points.each rank inside) in
    let left_is = c.in-Some.ensures.position in
    subst (λ (p : Placement). IsTrue c.are_live-live.result ↔ IsLive (swap p)) (sym left_is)
    (c.are_live-live.ensures (record { mover = other; other = layout_at layouts rank }) theirs mover)

pub loop-rank-preserved : goal.loop-rank-preserved
loop-rank-preserved g c =
    let old = g.P.Pairs.seen c.args.pairs.now in
    let mid = g.P.Pairs.seen c.loop-rank.pairs in
    let before = c.loop-rank.invariant in
    let rank = c.loop-rank.rank in
    let stakes = c.args.stakes.now in
    let layouts = c.args.column.now.layouts in
    let other = layout_at c.args.column.now.others c.args.layer in
    let few : rank < 4096 = omega (arith, c.loop-rank-test.true, c.many-rank-end.ensures.few) in
    elim c.match-needed_position.branch [
      | in-Some w ↦ (
          let new = g.P.Pairs.seen w.fill_cell.new.pairs in
          let cell = w.fill_cell.ensures in
          let left_is = w.in-Some.ensures.position in
          rw (w.rows-is, w.pairs-is) (record {
            rows = cell.rows;
            found = λ end. rows-more end old stakes layouts other c.args.column.now.needed mid new c.args.rows.now c.loop-rank.rows w.fill_cell.new.rows c.args.layer rank w.in-Some.left before.later cell.later cell.rows c.requires.eight few left_is (rw before.later.source at (cell.put end)) (before.found end);
            later = later-trans old mid new before.later cell.later;
            stays = cell.stays ∙ before.stays;
          }))
      | in-None w ↦ (
          let none = c.needed_position.ensures.none w.in-None.is in
          rw (w.rows-is, w.pairs-is) (record {
            rows = before.rows;
            found = λ end. rows-none end old stakes layouts other c.args.column.now.needed mid.notes c.args.rows.now c.loop-rank.rows c.args.layer rank none (before.found end);
            later = before.later;
            stays = before.stays;
          }))
    ]

pub returns-clause-found : goal.returns-clause-found
returns-clause-found g c = λ end.
    let column = c.args.column.now in
    let last : c.loop-rank.rank ≡ length column.layouts = omega (arith, c.loop-rank-test.false, c.many-rank-end.ensures.many, c.loop-rank.auto.rank-end) in
    subst (λ (count : ℕ). AreFoundRowsTo end (g.P.Pairs.seen c.args.pairs.now).source (g.P.Pairs.seen c.loop-rank.pairs).notes c.args.stakes.now column.layouts (layout_at column.others c.args.layer) column.needed c.args.rows.now c.loop-rank.rows c.args.layer count) last (c.loop-rank.invariant.found end)
