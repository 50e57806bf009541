use Rattle.std.proofs.Common.{ap, arith, sym, ◌∙◌}
use Rattle.interval_words.proofs.Calls.{settles-at, settled-at, word-zero}
use Rattle.interval_words.proofs.board.Board.settle.Goals as goal

pub load-requires : goal.load-requires
load-requires c = (
  ap (λ s. s.table) c.seat.view_is ∙ c.requires.seat.table ∙ sym (ap (λ b. b.table) c.self.view_is),
  omega (arith, word-zero _ c.self.invariant.valid, c.self.invariant.wide),
  settles-at _ _ (c.self.invariant.same ∙ ap (λ b. b.game) c.self.view_is) _ _ _ _ (ap (λ s. s.view) c.seat.view_is) c.requires.seat.game c.requires.round,
)

pub returns : goal.returns
returns c = record { seat = settled-at _ _ _ _ _ c.seat.view_is c.load.ensures.0 c.load.ensures.2.0 }
