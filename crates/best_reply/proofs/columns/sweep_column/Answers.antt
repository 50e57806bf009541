use Rattle.std.proofs.Common.{◌≡◌, ◌<◌, ◌∙◌, ℕ, length, ap, subst}
use Rattle.position_rank.specs.LiveRanks.{live_positions, live_rank_of}
use Rattle.turn_rule.specs.Turn.{turn}
use Rattle.turn_rule.specs.Looks.{Source}
use Rattle.column_sums.specs.Leaps.{layout_at}
use Rattle.column_turns.specs.Columns.{IsRoomOf}
use Rattle.best_reply.specs.Tables.{words_by}
use Rattle.best_reply.proofs.Filling.{bank-place}
use Rattle.best_reply.proofs.ColumnLemmas.{column-filled, column-turned, put-step}
use Rattle.best_reply.proofs.columns.sweep_column.Goals as goal

pub put_pairs-requires-clause-inside : goal.put_pairs-requires-clause-inside
put_pairs-requires-clause-inside c =
    let game = c.args.words.now.game in
    let below : c.rank-rank.result < live_positions game.checkers = subst (λ (n : ℕ). c.rank-rank.result < live_positions n) c.index.ensures c.rank-rank.ensures.below in
    bank-place game c.loop-i.new c.rank-rank.result c.loop-i.invariant.full below

pub loop-i-preserved : goal.loop-i-preserved
loop-i-preserved c =
    let words = c.args.words.now in
    let game = words.game in
    let old = c.args.old.now in
    let column = c.fill.new.self in
    let i = c.loop-i.i in
    let room : IsRoomOf game column = record { layouts = rw c.fill.ensures.layouts c.requires.room.layouts; kinds = c.fill.ensures.kinds ∙ c.requires.room.kinds } in
    let is : column.other ≡ layout_at column.layouts c.args.other = rw c.fill.ensures.layouts c.fill.ensures.other in
    let noted : words_by c.fill.new.pairs.bank.now ≡ words_by old = ap (λ (s : Source). s.floor) c.fill.ensures.later.source ∙ ap words_by c.of-reader.ensures.bank in
    let found = rw (c.of-reader.ensures.words, c.of-reader.ensures.bank, c.stakes.ensures) at c.fill.ensures.turns in
    let turned = column-turned game column c.args.other room c.requires.other is c.fill.ensures.movers old (words_by c.fill.new.pairs.bank.now) noted found in
    let here : i < length column.movers = rw (← c.len-i-end.ensures) c.loop-i-test.true in
    let rank = c.rank-rank.ensures.rank ∙ ap live_rank_of c.position.ensures.position in
    put-step game column c.args.other room c.requires.other is c.fill.ensures.movers (turn game.stakes (words_by old)) turned i c.rank-rank.result c.loop-i.new c.put_pairs.new.bank here rank c.loop-i.invariant c.put_pairs.ensures

pub returns-clause-room : goal.returns-clause-room
returns-clause-room c = record { layouts = rw c.fill.ensures.layouts c.requires.room.layouts; kinds = c.fill.ensures.kinds ∙ c.requires.room.kinds }

pub returns-clause-filled : goal.returns-clause-filled
returns-clause-filled c =
    let game = c.args.words.now.game in
    let column = c.fill.new.self in
    let room : IsRoomOf game column = record { layouts = rw c.fill.ensures.layouts c.requires.room.layouts; kinds = c.fill.ensures.kinds ∙ c.requires.room.kinds } in
    let is : column.other ≡ layout_at column.layouts c.args.other = rw c.fill.ensures.layouts c.fill.ensures.other in
    column-filled game column c.args.other room c.requires.other is c.fill.ensures.movers (turn game.stakes (words_by c.args.old.now)) c.loop-i.i c.loop-i.new (rw (← c.len-i-end.ensures) c.loop-i-test.false) c.loop-i.invariant
