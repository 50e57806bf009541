use Rattle.std.proofs.Common.{◌∙◌, ap, sym}
use Rattle.position_rank.specs.Placement.{swap}
use Rattle.move_rules.specs.Payoff.{points}
use Rattle.turn_rule.proofs.play_end.PlayEnd.of.Goals as goal

pub returns : goal.returns
returns c = ap swap c.swap-theirs.ensures.swap

pub invariant_of-result : goal.invariant_of-result
invariant_of-result c = record {
  won_is = c.points.ensures ∙ ap points (sym (ap swap c.swap-theirs.ensures.swap));
  square_is = c.square_rank.ensures.rank;
}
