use Rattle.directed_fixed.specs.declared.bounds.End.{End}
use Rattle.directed_fixed.specs.Bounds.{other}
use Rattle.turn_rule.specs.Turn.{Words, turn}
use Rattle.turn_rule.specs.Looks.{MayFollowTurn}
use Rattle.turn_rule.proofs.Agreement.{turn-agree-at}
use Rattle.turn_rule.proofs.Sure.{exact-pair}
use Rattle.turn_rule.proofs.look_laws.one_list_gives_the_turn.Goals as goal

pub returns : goal.returns
returns c = λ source noted stakes p k pair told same is.
    exact-pair source noted (MayFollowTurn stakes p k) source.bound (λ (end : End) (w : Words). turn stakes w end p k) pair told
    (λ end. turn-agree-at stakes source.floor noted.words end p k (same (other end))) is
