use Rattle.std.proofs.Common.{pos, ◌*ℤ◌}
use Rattle.directed_fixed.specs.declared.bounds.End.{End}
use Rattle.directed_fixed.specs.Bounds.{other}
use Rattle.turn_rule.specs.Turn.{Words, roll_value}
use Rattle.turn_rule.specs.Looks.{MayFollow}
use Rattle.turn_rule.proofs.Agreement.{roll-agree}
use Rattle.turn_rule.proofs.Sure.{exact-pair}
use Rattle.turn_rule.proofs.look_laws.one_list_gives_the_roll.Goals as goal

pub returns : goal.returns
returns c = λ source noted stakes p k factor pair told same is.
    exact-pair source noted (MayFollow stakes p k) (pos factor *ℤ source.bound) (λ (end : End) (w : Words). roll_value end stakes w p k factor) pair told
    (λ end. roll-agree stakes source.floor noted.words end p k factor (same (other end))) is
