use Rattle.std.proofs.Common.{◌<◌, ◌+◌, ◌∙◌, All, [], ◌∷◌, List, get_or, length, length-set, sym, subst, arith}
use Rattle.column_sums.specs.declared.cells.Reach.{Reach}
use Rattle.column_sums.specs.declared.moves.DieList.{DieList}
use Rattle.column_sums.specs.Cells.{IsReach}
use Rattle.column_sums.specs.Tables.{IsReachWithin, IsRightAfter, AreRightIn}
use Rattle.column_sums.specs.MoveLists.{IsDieList}
use Rattle.column_sums.specs.Sums.{AreRightTo}
use Rattle.column_sums.specs.Worths.{cells_at}
use Rattle.column_sums.proofs.AtEnds.{row-table}
use Rattle.column_sums.proofs.Places.{any-default, put-more}
use Rattle.column_sums.proofs.Reached.{by-die}
use Rattle.column_sums.proofs.TableLemmas.{reach-within}
use Rattle.column_sums.proofs.SumLemmas.{row-after}
use Rattle.column_sums.proofs.sums.fill_ones.Goals as goal

pub fill-requires-clause-reaches : goal.fill-requires-clause-reaches
fill-requires-clause-reaches c =
    let moves = c.args.moves.now in
    let ready = c.requires.ready in
    let d = c.loop-d.d in
    let is = by-die (λ die list. IsDieList moves.steps moves.layers moves.listing moves.movers die list) moves.lists ready.each d c.index-moves-d.result c.loop-d-test.true in
    subst (All IsReachWithin) (sym c.deref.ensures.value) (λ k none h. reach-within moves.steps moves.layers (d + 1) _ ready.few ready.eight (is.each k none h))

pub loop-d-preserved : goal.loop-d-preserved
loop-d-preserved c =
    let moves = c.args.moves.now in
    let ready = c.requires.ready in
    let d = c.loop-d.d in
    let item = c.index-moves-d.result in
    let ones = c.loop-d.ones in
    let new = c.fill.new.self in
    let row = c.args.row.now in
    let here : d < length ones = omega (arith, c.loop-d-test.true, c.loop-d.invariant.six) in
    let all = (get_or moves.lists d item).reaches.items in
    let is = by-die (λ die list. IsDieList moves.steps moves.layers moves.listing moves.movers die list) moves.lists ready.each d item c.loop-d-test.true in
    record {
      six = length-set ones d new ∙ c.loop-d.invariant.six;
      filled = λ end value tabled. put-more
          (λ i table. (list : DieList) → AreRightTo value ((i + 1) ∷ []) moves (cells_at end table) (get_or moves.lists i list).reaches.items (length (get_or moves.lists i list).reaches.items))
          ones d new here (c.loop-d.invariant.filled end value tabled)
          (λ list. (
          let after : All (IsRightAfter value [] moves.steps moves.layers (cells_at end row)) all = λ k none h. row-after value moves ready (cells_at end row) (d + 1) _ (c.requires.row.each end) tabled (ready.needed.ends d item c.loop-d-test.true k none h) (is.each k none h) in
          let done = c.fill.ensures.filled end value [] moves.steps moves.layers (d + 1) ready.few (subst (All (IsReach moves.steps moves.layers (d + 1))) (sym c.deref.ensures.value) is.each)
          (subst (All (IsRightAfter value [] moves.steps moves.layers (cells_at end row))) (sym c.deref.ensures.value) after) in
          let there : AreRightIn value ((d + 1) ∷ []) moves.steps moves.layers (cells_at end new) all = subst (λ (rs : List Reach). AreRightIn value ((d + 1) ∷ []) moves.steps moves.layers (cells_at end new) rs) c.deref.ensures.value done in
          subst (λ (l : DieList). AreRightTo value ((d + 1) ∷ []) moves (cells_at end new) l.reaches.items (length l.reaches.items)) (any-default moves.lists d item list (omega (arith, c.loop-d-test.true, ready.rooms.six))) there));
    }

pub fill-requires-clause-from : goal.fill-requires-clause-from
fill-requires-clause-from c = row-table c.args.row.now c.requires.row
