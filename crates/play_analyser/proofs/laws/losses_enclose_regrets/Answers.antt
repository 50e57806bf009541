use Rattle.play_analyser.proofs.Enclosing.{loss-of-encloses}
use Rattle.play_analyser.proofs.laws.losses_enclose_regrets.Goals as goal

pub returns : goal.returns
returns c = λ game right scoring within turns u encloses p k state choice is.
    loss-of-encloses game right scoring within turns u encloses p k state choice is
