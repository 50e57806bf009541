use Rattle.directed_fixed.specs.declared.bounds.End.TheVariants.{Lower, Upper}
use Rattle.play_analyser.proofs.AdvisedLosses.{looser-encloses}
use Rattle.play_analyser.proofs.look_laws.looked_losses_enclose_regrets.Goals as goal

pub returns : goal.returns
returns c = λ game scoring turns noted words p k state choice is source pair told looked.
    looser-encloses game scoring turns noted.words words p k state choice is pair (record { lower = (looked.ends told Lower).no_tighter; upper = (looked.ends told Upper).no_tighter })
