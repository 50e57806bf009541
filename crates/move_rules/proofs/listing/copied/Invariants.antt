use Rattle.std.proofs.Common.{◌≡◌, take}
use Rattle.move_rules.proofs.listing.copied.Given as goal

abbrev pub invariant-loop-step : goal.invariant-loop-step
invariant-loop-step l = l.copy.items ≡ take l.step-index l.step-items
