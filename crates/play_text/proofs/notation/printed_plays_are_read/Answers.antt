use Rattle.play_text.proofs.NotationPrints.{printed-read}
use Rattle.play_text.proofs.notation.printed_plays_are_read.Goals as goal

pub returns : goal.returns
returns c = printed-read
