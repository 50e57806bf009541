use Rattle.std.proofs.Common.{ap, sym, subst, ◌∙◌}
use Rattle.block_claims.specs.declared.views.ClaimView.{ClaimView}
use Rattle.block_claims.specs.Views.{HasEachOnce}
use Rattle.block_claims.proofs.Steps.{allows-split}
use Rattle.block_claims.proofs.claims.Claims.split.Goals as goal

pub split_seat-requires : goal.split_seat-requires
split_seat-requires c = (
  ap (λ s. s.table) c.seat.view_is ∙ (c.requires ∙ sym (ap (λ b. b.table) c.self.view_is)),
  c.self.invariant.some,
  allows-split _ _ _,
)

pub invariant_of-seat : goal.invariant_of-seat
invariant_of-seat c =
    let me = c.split_seat.ensures.2 in
    (ap (λ m. m.1) me ∙ c.seat.invariant.0, subst (λ (view : ClaimView). HasEachOnce view) (sym (ap (λ m. m.0) me)) c.seat.invariant.1)
