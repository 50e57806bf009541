use Rattle.record_text.proofs.Ascii.{ascii-play}
use Rattle.record_text.proofs.words.play_of.Goals as goal

pub returns-in_default : goal.returns-in_default
returns-in_default c = λ steps play. c.in_default.ensures (ascii-play c.args.text.now steps play)
