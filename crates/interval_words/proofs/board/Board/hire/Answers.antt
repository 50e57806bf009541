use Rattle.std.proofs.Common.{ap, arith, sym, ◌∙◌}
use Rattle.interval_words.proofs.Calls.{word-zero}
use Rattle.interval_words.proofs.Allowed.{hires}
use Rattle.interval_words.proofs.board.Board.hire.Goals as goal

pub split_seat-requires : goal.split_seat-requires
split_seat-requires c = (
  ap (λ s. s.table) c.seat.view_is ∙ c.requires.seat.table ∙ sym (ap (λ b. b.table) c.self.view_is),
  omega (arith, word-zero _ c.self.invariant.valid, c.self.invariant.wide),
  hires _ _ _,
)
