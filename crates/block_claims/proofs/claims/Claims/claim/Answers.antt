use Rattle.std.proofs.Common.{◌<◌, ap, sym, ◌∙◌, arith}
use Rattle.block_claims.proofs.Steps.{allows-claim}
use Rattle.block_claims.proofs.claims.Claims.claim.Goals as goal

pub fetch_max-found-requires : goal.fetch_max-found-requires
fetch_max-found-requires c =
    let inside : c.args.block < c.self.inside.table.shared.table_id.words = omega (arith, c.requires.block, ap (λ b. b.blocks) c.self.view_is) in (
      ap (λ s. s.table) c.seat.view_is ∙ (c.requires.table ∙ sym (ap (λ b. b.table) c.self.view_is)),
      inside,
      allows-claim _ _ _ _ _ c.args.block c.args.round (omega (arith, inside, c.self.invariant.many)) c.requires.round,
    )
