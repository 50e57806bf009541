use Rattle.std.proofs.Common.{ap, arith, sym, ◌∙◌}
use Rattle.interval_words.proofs.Calls.{reads-at, noting-at, read-small, read-within, read-tight, read-held, read-value}
use Rattle.interval_words.proofs.board.Board.read.Goals as goal

pub load-word-requires : goal.load-word-requires
load-word-requires c = (
  ap (λ s. s.table) c.seat.view_is ∙ c.requires.seat.table ∙ sym (ap (λ b. b.table) c.self.view_is),
  omega (arith, c.place-place.ensures.below, ap (λ b. b.table.words) c.self.view_is),
  reads-at _ _ (c.self.invariant.same ∙ ap (λ b. b.game) c.self.view_is) _ _ _ _ (ap (λ s. s.view) c.seat.view_is) c.requires.seat.game c.args.end c.args.state c.place-place.result c.place-place.ensures.place c.requires.state,
)

pub of_word-requires : goal.of_word-requires
of_word-requires c =
    read-small c.args.self.now.game c.seat.inside.seat.me c.args.seat.now.view (ap (λ s. s.view) c.seat.view_is) c.requires.seat.game c.args.end c.args.state c.place-place.result c.load-word.result c.place-place.ensures.place c.load-word.ensures.2.2 c.requires.state

pub returns-clause-seat : goal.returns-clause-seat
returns-clause-seat c = noting-at _ _ _ _ _ _ _ _ _ c.seat.view_is c.load-word.ensures.0 c.load-word.ensures.2.0 c.place-place.ensures.place (read-value _ _ c.of_word.ensures)

pub returns-clause-within : goal.returns-clause-within
returns-clause-within c =
    read-within c.args.self.now.game c.seat.inside.seat.me c.args.seat.now.view (ap (λ s. s.view) c.seat.view_is) c.requires.seat.game c.args.end c.args.state c.place-place.result c.load-word.result c.place-place.ensures.place c.load-word.ensures.2.2 c.of_word.result (read-value _ _ c.of_word.ensures) c.requires.state

pub returns-clause-tight : goal.returns-clause-tight
returns-clause-tight c =
    read-tight c.args.self.now.game c.seat.inside.seat.me c.args.seat.now.view (ap (λ s. s.view) c.seat.view_is) c.requires.seat.game c.args.end c.args.state c.place-place.result c.load-word.result c.place-place.ensures.place c.load-word.ensures.2.2 c.of_word.result (read-value _ _ c.of_word.ensures)

pub returns-clause-held : goal.returns-clause-held
returns-clause-held c =
    read-held c.args.self.now.game c.seat.inside.seat.me c.args.seat.now.view (ap (λ s. s.view) c.seat.view_is) c.requires.seat.game c.args.end c.args.state c.place-place.result c.load-word.result c.place-place.ensures.place c.load-word.ensures.2.2 c.of_word.result (read-value _ _ c.of_word.ensures)
