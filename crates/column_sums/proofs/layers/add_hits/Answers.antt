use Rattle.std.proofs.Common.{◌≤◌, ◌∙◌, sym, arith}
use Rattle.column_sums.proofs.LayerHits.{hits-more, hits-same, room-more, room-all}
use Rattle.column_sums.proofs.layers.add_hits.Goals as goal
use Rattle.column_sums.proofs.layers.add_hits.Goals.{then-count-eq1, else-count-eq1}

pub add_hit-requires-clause-room : goal.add_hit-requires-clause-room
add_hit-requires-clause-room c =
    let valid = c.checkers-checkers.ensures.valid in
    let four = room-more c.args.other.now c.loop-point.others.items c.loop-point.point c.loop-point.invariant.hits valid.places valid.at_most_three (omega (arith, c.loop-point-test.true)) (sym c.count.ensures.count ∙ c.if-count-eq1.true) in
    omega (arith, four, c.loop-point.invariant.capacity, c.requires.room)

pub loop-point-preserved : goal.loop-point-preserved
loop-point-preserved c =
    let valid = c.checkers-checkers.ensures.valid in
    let hits = c.loop-point.invariant.hits in
    let old = c.loop-point.others.items in
    let p = c.loop-point.point in
    let high : p ≤ 24 = omega (arith, c.loop-point-test.true) in
    elim c.if-count-eq1.branch [
      | then-count-eq1 w ↦ rw w.others-is (record {
        hits = hits-more c.args.other.now old w.add_hit.new.others.items p hits c.loop-point.auto.point high w.add_hit.ensures.hit valid.places (sym c.count.ensures.count ∙ w.if-count-eq1.true);
        capacity = w.add_hit.ensures.capacity ∙ c.loop-point.invariant.capacity;
      })
      | else-count-eq1 w ↦ rw w.others-is (record {
        hits = hits-same c.args.other.now old old p hits c.loop-point.auto.point high valid.places (λ one. w.if-count-eq1.false (c.count.ensures.count ∙ one));
        capacity = c.loop-point.invariant.capacity;
      })
    ]

pub returns-clause-few : goal.returns-clause-few
returns-clause-few c = room-all c.args.other.now c.loop-point.others.items c.loop-point.point c.loop-point.invariant.hits c.checkers-checkers.ensures.valid.at_most_three
