use Rattle.std.proofs.Common.{subst}
use Rattle.block_claims.specs.Claiming.{Claimer}
use Rattle.block_claims.specs.Views.{HasEachOnce}
use Rattle.block_claims.proofs.claims.ClaimSeat.has_each_once.Goals as goal

pub returns : goal.returns
returns c = subst (λ (s : Claimer). HasEachOnce s.view) c.self.view_is c.self.invariant.1
