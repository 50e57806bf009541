use Rattle.std.proofs.Common.{drop}
use Rattle.play_text.proofs.NotationPrints.{HasPrinted}
use Rattle.play_text.proofs.notation.print_play.Given as goal

abbrev pub invariant-loop-step : goal.invariant-loop-step
invariant-loop-step l = HasPrinted l.fn.position l.fn.play.items l.text.bytes l.now (drop l.step-index l.step-items) l.step-index
