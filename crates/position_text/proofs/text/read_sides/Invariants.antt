use Rattle.std.proofs.Common.{drop, length}
use Rattle.position_text.specs.Text.{words}
use Rattle.position_text.proofs.TextSides.{IsRead}
use Rattle.position_text.proofs.text.read_sides.Given as goal

abbrev pub invariant-loop-word : goal.invariant-loop-word
invariant-loop-word l = IsRead (words l.fn.text) l.past_slash l.mover.items l.other.items (drop (length l.yielded) (words l.fn.text))
