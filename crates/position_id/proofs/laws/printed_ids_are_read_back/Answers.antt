use Rattle.position_id.proofs.RoundTrip.{read-printed}
use Rattle.position_id.proofs.laws.printed_ids_are_read_back.Goals as goal

pub returns : goal.returns
returns c = read-printed
