use Rattle.std.proofs.Common.{◌≡◌, ◌<◌, ◌∙◌, length, ap, arith}
use Rattle.turn_rule.specs.Looks.{Source}
use Rattle.turn_rule.specs.Layouts.{AreLayouts}
use Rattle.column_sums.specs.Leaps.{layout_at}
use Rattle.plain_table.specs.Tables.{words_at}
use Rattle.plain_table.proofs.ColumnLemmas.{turns-exact, of-table, fill-step, column-turned}
use Rattle.plain_table.proofs.sweep.sweep_column.Goals as goal

pub loop-i-preserved : goal.loop-i-preserved
loop-i-preserved c =
    let stakes = c.args.stakes.now in
    let old = c.args.old.now in
    let column = c.fill.new.self in
    let i = c.loop-i.i in
    let all : AreLayouts old.checkers column.layouts = rw c.fill.ensures.layouts c.requires.over.layouts in
    let inside : c.args.other < length column.layouts = rw c.fill.ensures.layouts c.requires.other in
    let is : column.other ≡ layout_at column.layouts c.args.other = rw c.fill.ensures.layouts c.fill.ensures.other in
    let noted : words_at c.fill.new.pairs.table.now ≡ words_at old = ap (λ (s : Source). s.floor) c.fill.ensures.later.source ∙ ap words_at c.of-reader.ensures.0 in
    let found = rw c.of-reader.ensures.0 at c.fill.ensures.turns in
    let exact = turns-exact stakes old c.of-reader.result.bound (words_at c.fill.new.pairs.table.now) column (c.fill.ensures.kinds ∙ c.requires.over.kinds) noted found in
    let here : i < length column.movers = rw (← c.len-i-end.ensures) c.loop-i-test.true in
    let put = c.put_position.ensures in
    fill-step stakes old c.args.new.now column i c.loop-i.new c.put_position.new.table c.loop-i.invariant here (of-table old column c.args.other all inside is c.fill.ensures.movers)
    (λ k kind. exact i k here (rw (← c.requires.over.kinds_too) kind)) put.alike put.full put.turned put.rest

pub returns-clause-turned : goal.returns-clause-turned
returns-clause-turned c =
    let old = c.args.old.now in
    let column = c.fill.new.self in
    let all : AreLayouts old.checkers column.layouts = rw c.fill.ensures.layouts c.requires.over.layouts in
    let inside : c.args.other < length column.layouts = rw c.fill.ensures.layouts c.requires.other in
    let is : column.other ≡ layout_at column.layouts c.args.other = rw c.fill.ensures.layouts c.fill.ensures.other in
    let last : c.loop-i.i ≡ length column.movers = omega (arith, c.loop-i-test.false, c.len-i-end.ensures, c.loop-i.auto.i-end) in
    column-turned c.args.stakes.now old c.args.new.now column c.loop-i.new c.args.other all c.requires.over.kinds_too inside is c.fill.ensures.movers c.requires.before (rw last at c.loop-i.invariant)
