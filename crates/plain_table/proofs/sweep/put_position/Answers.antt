use Rattle.std.proofs.Common.{◌≡◌, ◌<◌, ◌+◌, ◌*◌, ◌∙◌, ℕ, sum, ap, sym, subst, refl}
use Rattle.position_rank.specs.Ranks.{square_rank_of}
use Rattle.turn_rule.specs.Layouts.{squares_of}
use Rattle.plain_table.specs.Columns.{position_at}
use Rattle.plain_table.proofs.TableLemmas.{place-within, put-step}
use Rattle.plain_table.proofs.sweep.put_position.Goals as goal

pub set-requires : goal.set-requires
set-requires c =
    let table = c.loop-number.table in
    let before = c.loop-number.invariant in
    let kinds : c.kinds-kinds.result ≡ table.kinds = c.kinds-kinds.ensures.kinds ∙ sym before.alike.kinds in
    let many : sum c.position.result.mover ≡ c.args.table.now.checkers = rw c.position.ensures.position c.requires.many in
    let here : c.square_rank.result < squares_of table.checkers = subst (λ (n : ℕ). c.square_rank.result < squares_of n) (many ∙ sym before.alike.checkers) c.square_rank.ensures.below in
    rw kinds (place-within table c.square_rank.result c.loop-number.number before.full here (rw (← kinds) c.loop-number-test.true))

pub loop-number-preserved : goal.loop-number-preserved
loop-number-preserved c =
    let table = c.loop-number.table in
    let before = c.loop-number.invariant in
    let kinds : c.kinds-kinds.result ≡ table.kinds = c.kinds-kinds.ensures.kinds ∙ sym before.alike.kinds in
    let many : sum c.position.result.mover ≡ c.args.table.now.checkers = rw c.position.ensures.position c.requires.many in
    let here : c.square_rank.result < squares_of table.checkers = subst (λ (n : ℕ). c.square_rank.result < squares_of n) (many ∙ sym before.alike.checkers) c.square_rank.ensures.below in
    let kind : c.loop-number.number < table.kinds = rw (← kinds) c.loop-number-test.true in
    let within = rw (← kinds) at (place-within table c.square_rank.result c.loop-number.number before.full here kind) in
    let rank : c.square_rank.result ≡ square_rank_of (position_at c.args.turns.now c.args.i) = c.square_rank.ensures.rank ∙ ap square_rank_of c.position.ensures.position in
    rw c.set.ensures (put-step _ _ _ c.loop-number.number table (c.square_rank.result * c.kinds-kinds.result + c.loop-number.number) c.pair.result before
    (rw (rank, kinds) refl) kind within c.pair.ensures)
