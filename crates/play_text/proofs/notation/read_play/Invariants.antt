use Rattle.std.proofs.Common.{length}
use Rattle.position_text.specs.Text.{words}
use Rattle.play_text.proofs.NotationTexts.{HasRead}
use Rattle.play_text.proofs.notation.read_play.Given as goal

abbrev pub invariant-loop-word : goal.invariant-loop-word
invariant-loop-word l = HasRead (words l.fn.text) l.written.items (length l.yielded)
