use Rattle.play_analyser.proofs.Tighter.{loss-of-tighter}
use Rattle.play_analyser.proofs.laws.tighter_words_give_tighter_losses.Goals as goal

pub returns : goal.returns
returns c = λ game right other stakes u v words p k state choice is.
    loss-of-tighter game right other stakes u v words p k state choice is
