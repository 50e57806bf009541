use Rattle.std.proofs.Common.{drop}
use Rattle.roll_table.specs.Rolls.{dice_of}
use Rattle.move_rules.proofs.WrittenLaws.{StepsGoOn}
use Rattle.move_rules.proofs.matched.match_steps.Given as goal

abbrev pub invariant-loop-step : goal.invariant-loop-step
invariant-loop-step l = StepsGoOn l.fn.position (dice_of l.fn.roll) l.fn.written.items l.now l.dice.items (drop l.step-index l.step-items) l.play.items
