use Rattle.std.proofs.Common.{ap, arith, sym, ◌∙◌}
use Rattle.directed_fixed.specs.declared.bounds.End.TheVariants.{Upper}
use Rattle.interval_words.proofs.Calls.{tightens-at, bringing-at, value_of-word}
use Rattle.interval_words.proofs.board.Board.lower_word.Goals as goal

pub fetch_min-requires : goal.fetch_min-requires
fetch_min-requires c = (
  ap (λ s. s.table) c.seat.view_is ∙ c.requires.seat.table ∙ sym (ap (λ b. b.table) c.self.view_is),
  omega (arith, c.place-place.ensures.below, ap (λ b. b.table.words) c.self.view_is),
  tightens-at _ _ (c.self.invariant.same ∙ ap (λ b. b.game) c.self.view_is) _ _ _ _ (ap (λ s. s.view) c.seat.view_is) c.requires.seat.game Upper c.args.state c.place-place.result c.to_word-word.result c.args.value c.place-place.ensures.place c.to_word-word.ensures c.requires.value,
)

pub returns-clause-seat : goal.returns-clause-seat
returns-clause-seat c = bringing-at _ _ _ _ _ _ _ _ _ c.seat.view_is c.fetch_min.ensures.0 c.fetch_min.ensures.2.0 c.place-place.ensures.place (value_of-word _ _ c.to_word-word.ensures)
