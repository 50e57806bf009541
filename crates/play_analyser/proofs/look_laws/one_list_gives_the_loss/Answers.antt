use Rattle.std.proofs.Common.{pos, ◌*ℤ◌, ap}
use Rattle.directed_fixed.specs.declared.bounds.End.{End}
use Rattle.directed_fixed.specs.Bounds.{Bounds, at}
use Rattle.turn_rule.specs.Turn.{Words}
use Rattle.turn_rule.proofs.Sure.{exact-pair}
use Rattle.play_analyser.specs.Regrets.{loss_of}
use Rattle.play_analyser.specs.Sought.{MayFollowChoice}
use Rattle.play_analyser.proofs.OneList.{loss-same}
use Rattle.play_analyser.proofs.look_laws.one_list_gives_the_loss.Goals as goal

pub returns : goal.returns
returns c = λ source noted stakes p k choice pair told choice_is same is.
    exact-pair source noted (MayFollowChoice stakes p k choice) (pos 8 *ℤ source.bound) (λ (end : End) (w : Words). at end (loss_of stakes w p k choice)) pair told
    (λ end. ap (λ (b : Bounds). at end b) (loss-same stakes source.floor noted.words p k choice choice_is same)) is
