use Rattle.std.proofs.Common.{◌≡◌, ◌∙◌, List, length, ap, sym, arith}
use Rattle.turn_rule.specs.Layouts.{HasRank}
use Rattle.column_sums.specs.ColumnOf.{ColumnOf}
use Rattle.column_sums.specs.declared.best.Bests.{Bests}
use Rattle.column_turns.proofs.ColumnStates.{listed-movers, column-of, written, room-for}
use Rattle.column_turns.proofs.column_turns.ColumnTurns.fill.Goals as goal

pub overflow_cast-self : goal.overflow_cast-self
overflow_cast-self g c = omega (arith, rw (← c.self.view_is) at c.requires.other, c.self.invariant.few)

pub list_movers-requires-clause-points : goal.list_movers-requires-clause-points
list_movers-requires-clause-points g c = rw c.deref.ensures.value c.self.invariant.points

pub turn_column-requires-clause-points : goal.turn_column-requires-clause-points
turn_column-requires-clause-points g c = rw (c.deref-2.ensures.value, c.begin.ensures.layouts) c.self.invariant.points

pub turn_column-requires-clause-column : goal.turn_column-requires-clause-column
turn_column-requires-clause-column g c =
    let s = (g.P.Pairs.seen c.args.pairs.now).source in
    let layouts = c.self.inside.column.layouts in
    let other = c.layout.result.now in
    let all = rw (← c.self.view_is) at c.requires.layouts in
    let has : HasRank s.checkers c.args.other other = rw c.layout.ensures (all.each c.args.other _ (rw (← c.self.view_is) at c.requires.other)) in
    let within = rw (c.movers-movers.ensures.movers, c.begin.ensures.layouts) at c.movers-movers.ensures.within in
    let few = rw (c.movers-movers.ensures.movers, c.begin.ensures.layouts) at c.movers-movers.ensures.few in
    let live = listed-movers layouts other c.list_movers.new.movers.items c.begin.new.self.movers c.list_movers.ensures.movers (rw c.as_slice.ensures.value at c.begin.ensures.movers) (rw c.as_slice.ensures.value at c.begin.ensures.only) within in
    rw c.begin.ensures.layouts
    (column-of s layouts c.begin.new.self.others other c.begin.new.self.movers all c.self.invariant.few c.begin.ensures.some c.begin.ensures.first has.valid has.many few live)

pub turn_column-requires-clause-rows : goal.turn_column-requires-clause-rows
turn_column-requires-clause-rows g c =
    rw (c.as_mut_slice.ensures.value, sym (rw (← c.self.view_is) at c.requires.kinds)) c.self.invariant.rows

pub turn_column-requires-clause-one : goal.turn_column-requires-clause-one
turn_column-requires-clause-one g c =
    let few = rw (c.movers-movers.ensures.movers, c.begin.ensures.layouts) at c.movers-movers.ensures.few in
    rw c.as_mut_slice-2.ensures.value (omega (arith, few, c.self.invariant.room_one))

pub turn_column-requires-clause-lower : goal.turn_column-requires-clause-lower
turn_column-requires-clause-lower g c =
    let few = rw (c.movers-movers.ensures.movers, c.begin.ensures.layouts) at c.movers-movers.ensures.few in
    rw c.as_mut_slice-3.ensures.value (room-for _ _ _ _ _ few (rw (← c.self.view_is) at c.requires.kinds) c.self.invariant.room_lower.many)

pub turn_column-requires-clause-upper : goal.turn_column-requires-clause-upper
turn_column-requires-clause-upper g c =
    let few = rw (c.movers-movers.ensures.movers, c.begin.ensures.layouts) at c.movers-movers.ensures.few in
    rw c.as_mut_slice-4.ensures.value (room-for _ _ _ _ _ few (rw (← c.self.view_is) at c.requires.kinds) c.self.invariant.room_upper.many)

pub turn_column-requires-clause-turns : goal.turn_column-requires-clause-turns
turn_column-requires-clause-turns g c =
    let few = rw (c.movers-movers.ensures.movers, c.begin.ensures.layouts) at c.movers-movers.ensures.few in
    rw c.as_mut_slice-5.ensures.value (room-for _ _ _ _ _ few (rw (← c.self.view_is) at c.requires.kinds) c.self.invariant.pairs)

pub invariant_of-self : goal.invariant_of-self
invariant_of-self g c =
    let before = c.self.invariant in
    let inside = c.self.inside in
    let swept = c.turn_column.ensures in
    let new = c.turn_column.new in
    let column : new.column.layouts ≡ inside.column.layouts = ap (λ (x : ColumnOf). x.layouts) swept.column ∙ c.begin.ensures.layouts in
    let has : HasRank inside.checkers c.args.other c.layout.result.now = rw c.layout.ensures (before.all.each c.args.other _ (rw (← c.self.view_is) at c.requires.other)) in
    let kinds = rw (← c.self.view_is) at c.requires.kinds in
    let rows = written inside.rows.len new.rows inside.rows.items c.as_mut_slice.result.now c.as_mut_slice.ensures.value c.as_mut_slice.ensures.len (swept.rows.many ∙ (sym kinds ∙ (sym before.rows.many ∙ ap (λ (rows : List (List Bests)). length rows) (sym c.as_mut_slice.ensures.value)))) in
    let one = written inside.one.len new.one inside.one.items c.as_mut_slice-2.result.now c.as_mut_slice-2.ensures.value c.as_mut_slice-2.ensures.len swept.one in
    let lower = written inside.lower.len new.lower inside.lower.items c.as_mut_slice-3.result.now c.as_mut_slice-3.ensures.value c.as_mut_slice-3.ensures.len swept.lower in
    let upper = written inside.upper.len new.upper inside.upper.items c.as_mut_slice-4.result.now c.as_mut_slice-4.ensures.value c.as_mut_slice-4.ensures.len swept.upper in
    let turns = written inside.pairs.len new.turns inside.pairs.items c.as_mut_slice-5.result.now c.as_mut_slice-5.ensures.value c.as_mut_slice-5.ensures.len swept.room in
    rw (column, rows, one, lower, upper, turns)
    (record {
      low = before.low;
      high = before.high;
      kinds = before.kinds;
      all = before.all;
      few = before.few;
      valid = has.valid;
      many = has.many;
      ranked = has.ranked;
      points = before.points;
      room = rw c.list_movers.ensures.room before.room;
      rows = rw kinds swept.rows;
      room_one = rw (swept.one, c.as_mut_slice-2.ensures.value) before.room_one;
      room_lower = record { many = rw (swept.lower, c.as_mut_slice-3.ensures.value) before.room_lower.many; small = swept.small_lower };
      room_upper = record { many = rw (swept.upper, c.as_mut_slice-4.ensures.value) before.room_upper.many; small = swept.small_upper };
      pairs = rw (swept.room, c.as_mut_slice-5.ensures.value) before.pairs;
    })

pub returns-clause-movers : goal.returns-clause-movers
returns-clause-movers g c =
    let layouts = c.self.inside.column.layouts in
    let within = rw (c.movers-movers.ensures.movers, c.begin.ensures.layouts) at c.movers-movers.ensures.within in
    rw (c.turn_column.ensures.column, c.begin.ensures.layouts)
    (listed-movers layouts c.layout.result.now c.list_movers.new.movers.items c.begin.new.self.movers c.list_movers.ensures.movers (rw c.as_slice.ensures.value at c.begin.ensures.movers) (rw c.as_slice.ensures.value at c.begin.ensures.only) within)

pub returns-clause-turns : goal.returns-clause-turns
returns-clause-turns g c =
    let inside = c.self.inside in
    let new = c.turn_column.new in
    let turns = written inside.pairs.len new.turns inside.pairs.items c.as_mut_slice-5.result.now c.as_mut_slice-5.ensures.value c.as_mut_slice-5.ensures.len c.turn_column.ensures.room in
    rw (c.turn_column.ensures.column, turns) (rw c.begin.ensures.first at c.turn_column.ensures.turns)
