use Rattle.position_text.proofs.TextRoundTrip.{read-printed}
use Rattle.position_text.proofs.text.printed_positions_are_read.Goals as goal

pub returns : goal.returns
returns c = read-printed
