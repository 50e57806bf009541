use Rattle.play_text.proofs.NotationTexts.{one-play}
use Rattle.play_text.proofs.notation.texts_tell_plays.Goals as goal

pub returns : goal.returns
returns c = one-play
