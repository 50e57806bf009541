use Rattle.std.proofs.Common.{ap, sym, ◌∙◌}
use Rattle.block_claims.proofs.Steps.{allows-join, allows-look}
use Rattle.block_claims.proofs.claims.Claims.join.Goals as goal

pub join_seat-requires : goal.join_seat-requires
join_seat-requires c = (
  ap (λ s. s.table) c.seat.view_is ∙ (c.requires.table ∙ sym (ap (λ b. b.table) c.self.view_is)),
  ap (λ s. s.table) c.other.view_is ∙ (c.requires.other ∙ sym (ap (λ b. b.table) c.self.view_is)),
  c.other.invariant.0,
  c.self.invariant.some,
  allows-join _ _ _ _ _,
)

pub load-requires : goal.load-requires
load-requires c = (
  c.join_seat.ensures.0 ∙ (ap (λ s. s.table) c.seat.view_is ∙ (c.requires.table ∙ sym (ap (λ b. b.table) c.self.view_is))),
  c.self.invariant.some,
  allows-look _ _ _ _ _ _,
)
