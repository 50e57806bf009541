use Rattle.block_claims.proofs.Reaching.{one_seat}
use Rattle.block_claims.proofs.laws.each_claim_has_one_seat.Goals as goal

pub returns : goal.returns
returns c = one_seat
