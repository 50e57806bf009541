use Rattle.std.proofs.Common.{◌≡◌, ◌++◌, drop}
use Rattle.std.specs.List.{flat_map}
use Rattle.record_text.specs.Texts.{spaced_step}
use Rattle.record_text.proofs.print.add_more_steps.Given as goal

abbrev pub invariant-loop-step : goal.invariant-loop-step
invariant-loop-step l = l.text.items ++ flat_map spaced_step (drop l.step-index l.steps) ≡ l.fn.text.items ++ flat_map spaced_step l.steps
