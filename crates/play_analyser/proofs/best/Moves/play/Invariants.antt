use Rattle.std.proofs.Common.{◌≡◌, take}
use Rattle.play_analyser.proofs.best.Moves.play.Given as goal

abbrev pub invariant-loop-step : goal.invariant-loop-step
invariant-loop-step l = l.play.items ≡ take l.step-index l.step-items
