use Rattle.block_claims.proofs.Reaching.{kept-event, kept-reaches}
use Rattle.block_claims.proofs.laws.claims_are_kept.Goals as goal

pub returns-clause-each : goal.returns-clause-each
returns-clause-each c = kept-event

pub returns-clause-all : goal.returns-clause-all
returns-clause-all c = kept-reaches
