use Rattle.std.proofs.Common.{drop}
use Rattle.roll_table.specs.Rolls.{dice_of}
use Rattle.move_rules.proofs.FaultLaws.{GoesOn}
use Rattle.move_rules.proofs.applied.follow.Given as goal

abbrev pub invariant-loop-step : goal.invariant-loop-step
invariant-loop-step l = GoesOn l.fn.position (dice_of l.fn.roll) l.fn.play.items l.now l.dice.items (drop l.step-index l.step-items)
