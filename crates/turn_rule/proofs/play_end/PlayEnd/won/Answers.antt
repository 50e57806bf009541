use Rattle.std.proofs.Common.{◌∙◌, ap}
use Rattle.move_rules.specs.Payoff.{points}
use Rattle.turn_rule.proofs.play_end.PlayEnd.won.Goals as goal

pub returns : goal.returns
returns c = c.self.invariant.won_is ∙ ap points c.self.view_is
